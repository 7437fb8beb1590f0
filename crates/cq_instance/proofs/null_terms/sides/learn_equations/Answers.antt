use Rattle.std.proofs.Common.{ℕ, List, Some, None, ◌≡◌, ◌<◌, ◌≤◌, length, get_or, sym, ap, subst, ◌∙◌}
use Rattle.std.specs.Prelude.{slice_get}
use Rattle.std.specs.List.{flat_map}
use Rattle.std.proofs.lemmas.List.{take_all}
use Rattle.std.proofs.lemmas.Option.{slice_get-get_or}
use Rattle.cq_theory.specs.declared.presentation.Equation.{Equation}
use Rattle.cq_theory.specs.declared.presentation.Presentation.{Presentation}
use Rattle.cq_theory.specs.Listed.{equation_nodes}
use Rattle.cq_theory.specs.Tables.{Assignment}
use Rattle.cq_instance.specs.InstanceData.{InstanceData}
use Rattle.cq_instance.specs.Learning.{IsReadable, learned_from}
use Rattle.cq_instance.proofs.Learnt.{learned_more}
use Rattle.cq_instance.proofs.SidesLearnt.{own_sides, sides_readable}
use Rattle.cq_instance.proofs.null_terms.sides.learn_equations.Goals as goal

pub learn_sides-requires-clause-left : goal.learn_sides-requires-clause-left
learn_sides-requires-clause-left c =
    let i : InstanceData = c.args.instance.now in
    let k : ℕ = c.loop-equation.equation-index in
    let items : c.as_slice-equation-items.result.now ≡ i.presentation.equations = c.as_slice-equation-items.ensures ∙ ap (λ (p : Presentation). p.equations) c.presentation.ensures.presentation in
    let at : slice_get i.presentation.equations k ≡ Some c.equation-item.result =
    ap (λ (l : List Equation). slice_get l k) (sym items) ∙ slice_get-get_or c.as_slice-equation-items.result.now k c.equation-item.result c.loop-equation-test.true ∙ ap (λ (e : Equation). Some e) (sym c.equation-item.is) in
    subst (λ (B : Assignment). IsReadable i B None c.in-Typ.left) (sym c.standings.ensures.standings) (sides_readable i c.standings.ensures.instance k c.equation-item.result c.in-Typ.left c.in-Typ.right at c.in-Typ.is).0

pub learn_sides-requires-clause-right : goal.learn_sides-requires-clause-right
learn_sides-requires-clause-right c =
    let i : InstanceData = c.args.instance.now in
    let k : ℕ = c.loop-equation.equation-index in
    let items : c.as_slice-equation-items.result.now ≡ i.presentation.equations = c.as_slice-equation-items.ensures ∙ ap (λ (p : Presentation). p.equations) c.presentation.ensures.presentation in
    let at : slice_get i.presentation.equations k ≡ Some c.equation-item.result =
    ap (λ (l : List Equation). slice_get l k) (sym items) ∙ slice_get-get_or c.as_slice-equation-items.result.now k c.equation-item.result c.loop-equation-test.true ∙ ap (λ (e : Equation). Some e) (sym c.equation-item.is) in
    subst (λ (B : Assignment). IsReadable i B None c.in-Typ.right) (sym c.standings.ensures.standings) (sides_readable i c.standings.ensures.instance k c.equation-item.result c.in-Typ.left c.in-Typ.right at c.in-Typ.is).1

pub loop-equation-preserved : goal.loop-equation-preserved
loop-equation-preserved c =
    let i : InstanceData = c.args.instance.now in
    let k : ℕ = c.loop-equation.equation-index in
    let e : Equation = c.equation-item.result in
    let items : c.as_slice-equation-items.result.now ≡ i.presentation.equations = c.as_slice-equation-items.ensures ∙ ap (λ (p : Presentation). p.equations) c.presentation.ensures.presentation in
    let within : k < length i.presentation.equations = subst (λ (l : List Equation). k < length l) items c.loop-equation-test.true in
    let is : e ≡ get_or i.presentation.equations k e = c.equation-item.is ∙ ap (λ (l : List Equation). get_or l k e) items in
    learned_more i (equation_nodes i.schema i.presentation i.names) i.presentation.equations k e c.args.known.now.items c.loop-equation.known.items c.learn_sides.new.known.items within is
    c.loop-equation.invariant
    (c.in_ok-learn_sides.ensures ∙ ap (learned_from i c.loop-equation.known.items) (own_sides c.in-Typ.left c.in-Typ.right)
    ∙ ap (λ (x : Equation). learned_from i c.loop-equation.known.items (equation_nodes i.schema i.presentation i.names x)) (sym c.in-Typ.is))

pub returns : goal.returns
returns c =
    let i : InstanceData = c.args.instance.now in
    let k : ℕ = c.loop-equation.equation-index in
    let items : c.as_slice-equation-items.result.now ≡ i.presentation.equations = c.as_slice-equation-items.ensures ∙ ap (λ (p : Presentation). p.equations) c.presentation.ensures.presentation in
    let end : length i.presentation.equations ≤ k = subst (λ (l : List Equation). length l ≤ k) items c.loop-equation-test.false in
    c.loop-equation.invariant
    ∙ ap (λ (l : List Equation). learned_from i c.args.known.now.items (flat_map (equation_nodes i.schema i.presentation i.names) l)) (take_all k i.presentation.equations end)
