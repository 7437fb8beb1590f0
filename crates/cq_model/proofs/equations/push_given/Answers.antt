use Rattle.std.proofs.Common.{ℕ, List, [], ◌∷◌, ◌++◌, ◌≤◌, ◌∙◌, length, take, sym, ap, subst, arith}
use Rattle.std.proofs.lemmas.List.{take_all}
use Rattle.cq_theory.specs.declared.presentation.Equation.{Equation}
use Rattle.cq_theory.specs.declared.presentation.Presentation.{Presentation}
use Rattle.cq_theory.specs.Presentation.{IsEquation}
use Rattle.cq_model.proofs.AddedSides.{AreGiven, HaveOneType, given_typed, given_none, given_ent, given_typ, next_longer, next_found}
use Rattle.cq_model.proofs.PushedTerms.{HavePlaces-wider, AreReadable-wider}
use Rattle.cq_model.proofs.equations.push_given.Goals as goal

pub loop-equation-init : goal.loop-equation-init
loop-equation-init c = given_none c.args.ground.now.schema.now c.args.ground.now.tables.now c.args.ground.now.places.now c.args.presentation.now c.args.entries.now c.args.list.now

pub loop-equation-preserved-in_default : goal.loop-equation-preserved-in_default
loop-equation-preserved-in_default c =
    let P : Presentation = c.args.presentation.now in
    let i : ℕ = c.loop-equation.equation-index in
    let longer = next_longer c.as_slice-equation-items.result.now P.equations i c.equation-item.result c.as_slice-equation-items.ensures c.loop-equation-test.true c.equation-item.is in
    let list = longer ∙ ap (λ (e : Equation). take i P.equations ++ e ∷ []) c.in_default.is in
    subst (λ (es : List Equation). AreGiven c.args.ground.now.schema.now c.args.ground.now.tables.now c.args.ground.now.places.now P c.args.entries.now es c.args.list.now c.loop-equation.list) (sym list)
    (given_ent c.args.ground.now.schema.now c.args.ground.now.tables.now c.args.ground.now.places.now P c.args.entries.now c.args.list.now c.loop-equation.list (take i P.equations) c.in_default.field-0 c.in_default.field-1 c.loop-equation.invariant)

pub push_equation-requires : goal.push_equation-requires
push_equation-requires c =
    let P : Presentation = c.args.presentation.now in
    let i : ℕ = c.loop-equation.equation-index in
    let found = next_found c.as_slice-equation-items.result.now P.equations i c.equation-item.result c.as_slice-equation-items.ensures c.loop-equation-test.true c.equation-item.is in
    let typed : HaveOneType c.args.ground.now.schema.now P.generators c.in-Typ.left c.in-Typ.right =
    given_typed c.args.ground.now.schema.now P c.in-Typ.left c.in-Typ.right (subst (IsEquation c.args.ground.now.schema.now P) c.in-Typ.is (c.requires.presentation.equations i c.equation-item.result found)) in
    let readable = AreReadable-wider c.args.ground.now.schema.now c.args.ground.now.tables.now c.args.ground.now.places.now P.generators c.args.entries.now (length c.args.list.now.nodes) (length c.loop-equation.list.nodes) c.loop-equation.invariant.grows c.requires.presented in
    record {
      places = HavePlaces-wider c.args.ground.now.schema.now c.args.ground.now.tables.now c.args.ground.now.places.now (length c.args.list.now.nodes) (length c.loop-equation.list.nodes) c.loop-equation.invariant.grows c.requires.places;
      left = record { generators = P.generators; readable = readable; type = typed.type; sort = typed.left };
      right = record { generators = P.generators; readable = readable; type = typed.type; sort = typed.right };
    }

pub loop-equation-preserved : goal.loop-equation-preserved
loop-equation-preserved c =
    let P : Presentation = c.args.presentation.now in
    let i : ℕ = c.loop-equation.equation-index in
    let longer = next_longer c.as_slice-equation-items.result.now P.equations i c.equation-item.result c.as_slice-equation-items.ensures c.loop-equation-test.true c.equation-item.is in
    let found = next_found c.as_slice-equation-items.result.now P.equations i c.equation-item.result c.as_slice-equation-items.ensures c.loop-equation-test.true c.equation-item.is in
    let typed : HaveOneType c.args.ground.now.schema.now P.generators c.in-Typ.left c.in-Typ.right =
    given_typed c.args.ground.now.schema.now P c.in-Typ.left c.in-Typ.right (subst (IsEquation c.args.ground.now.schema.now P) c.in-Typ.is (c.requires.presentation.equations i c.equation-item.result found)) in
    let list = longer ∙ ap (λ (e : Equation). take i P.equations ++ e ∷ []) c.in-Typ.is in
    subst (λ (es : List Equation). AreGiven c.args.ground.now.schema.now c.args.ground.now.tables.now c.args.ground.now.places.now P c.args.entries.now es c.args.list.now c.push_equation.new.list) (sym list)
    (given_typ c.args.ground.now.schema.now c.args.ground.now.tables.now c.args.ground.now.places.now P c.args.entries.now c.args.list.now c.loop-equation.list c.push_equation.new.list (take i P.equations) c.in-Typ.left c.in-Typ.right
    c.loop-equation.invariant typed c.in_ok-push_equation.ensures)

pub returns-clause-grows : goal.returns-clause-grows
returns-clause-grows c = c.loop-equation.invariant.grows

pub returns-clause-added : goal.returns-clause-added
returns-clause-added c =
    let P : Presentation = c.args.presentation.now in
    let past : length P.equations ≤ c.loop-equation.equation-index = omega (arith, c.loop-equation-test.false, ap length c.as_slice-equation-items.ensures) in
    let are = subst (λ (es : List Equation). AreGiven c.args.ground.now.schema.now c.args.ground.now.tables.now c.args.ground.now.places.now P c.args.entries.now es c.args.list.now c.loop-equation.list)
    (take_all c.loop-equation.equation-index P.equations past) c.loop-equation.invariant in
    are.added
