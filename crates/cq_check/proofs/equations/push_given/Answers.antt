use Rattle.std.proofs.Common.{ℕ, Some, ◌≤◌, ◌+◌, ◌∙◌, length, ap, arith}
use Rattle.cq_tables.specs.Content.{Content, made_of}
use Rattle.cq_check.specs.Answers.{IsWellSorted}
use Rattle.cq_check.proofs.Lists.{item_at}
use Rattle.cq_check.proofs.Listed.{given_none, given_skipped, given_added}
use Rattle.cq_check.proofs.Sides.{left_readable, right_readable, equation_sorted}
use Rattle.cq_theory.specs.declared.presentation.Equation.{Equation}
use Rattle.cq_theory.specs.declared.presentation.Equation.TheVariants.{Typ as TypEquation}
use Rattle.cq_theory.specs.declared.presentation.Presentation.{Presentation}
use Rattle.cq_theory.specs.SchemaData.{SchemaData as Schema}
use Rattle.cq_check.proofs.equations.push_given.Goals as goal

pub loop-equation-init : goal.loop-equation-init
loop-equation-init c = given_none c.args.schema.now c.args.presentation.now c.args.tables.now c.args.entries.now c.args.list.now

pub loop-equation-preserved-in_default : goal.loop-equation-preserved-in_default
loop-equation-preserved-in_default c =
    let P : Presentation = c.args.presentation.now in
    let i : ℕ = c.loop-equation.equation-index in
    let found = item_at P.equations c.as_slice-equation-items.result.now i c.equation-item.result c.as_slice-equation-items.ensures c.loop-equation-test.true c.equation-item.is in
    given_skipped c.args.schema.now P c.args.tables.now c.args.entries.now c.args.list.now c.loop-equation.list i c.in_default.field-0 c.in_default.field-1
    (found ∙ ap (λ (e : Equation). Some e) c.in_default.is) c.loop-equation.invariant

pub push_equation-requires-clause-left : goal.push_equation-requires-clause-left
push_equation-requires-clause-left c =
    let S : Schema = c.args.schema.now in
    let P : Presentation = c.args.presentation.now in
    let m : Content = c.args.tables.now in
    let i : ℕ = c.loop-equation.equation-index in
    let count : ℕ = length c.loop-equation.list.nodes in
    let found = item_at P.equations c.as_slice-equation-items.result.now i c.equation-item.result c.as_slice-equation-items.ensures c.loop-equation-test.true c.equation-item.is in
    let sorted : IsWellSorted S P (TypEquation c.in-Typ.left c.in-Typ.right) =
    equation_sorted S P i (TypEquation c.in-Typ.left c.in-Typ.right) c.requires.presentation (found ∙ ap (λ (e : Equation). Some e) c.in-Typ.is) in
    let enough : made_of m + length P.generators ≤ count = omega (arith, c.requires.count, c.loop-equation.invariant.grows.count) in
    left_readable S P m c.args.entries.now c.requires.frame c.in-Typ.left c.in-Typ.right sorted count enough

pub push_equation-requires-clause-right : goal.push_equation-requires-clause-right
push_equation-requires-clause-right c =
    let S : Schema = c.args.schema.now in
    let P : Presentation = c.args.presentation.now in
    let m : Content = c.args.tables.now in
    let i : ℕ = c.loop-equation.equation-index in
    let count : ℕ = length c.loop-equation.list.nodes in
    let found = item_at P.equations c.as_slice-equation-items.result.now i c.equation-item.result c.as_slice-equation-items.ensures c.loop-equation-test.true c.equation-item.is in
    let sorted : IsWellSorted S P (TypEquation c.in-Typ.left c.in-Typ.right) =
    equation_sorted S P i (TypEquation c.in-Typ.left c.in-Typ.right) c.requires.presentation (found ∙ ap (λ (e : Equation). Some e) c.in-Typ.is) in
    let enough : made_of m + length P.generators ≤ count = omega (arith, c.requires.count, c.loop-equation.invariant.grows.count) in
    right_readable S P m c.args.entries.now c.requires.frame c.in-Typ.left c.in-Typ.right sorted count enough

pub loop-equation-preserved : goal.loop-equation-preserved
loop-equation-preserved c =
    let P : Presentation = c.args.presentation.now in
    let i : ℕ = c.loop-equation.equation-index in
    let found = item_at P.equations c.as_slice-equation-items.result.now i c.equation-item.result c.as_slice-equation-items.ensures c.loop-equation-test.true c.equation-item.is in
    given_added c.args.schema.now P c.args.tables.now c.args.entries.now c.requires.presentation c.args.list.now c.loop-equation.list c.push_equation.new.list i c.in-Typ.left c.in-Typ.right
    (found ∙ ap (λ (e : Equation). Some e) c.in-Typ.is) c.in_ok-push_equation.ensures c.loop-equation.invariant

pub returns-clause-grows : goal.returns-clause-grows
returns-clause-grows c = c.loop-equation.invariant.grows

pub returns-clause-sound : goal.returns-clause-sound
returns-clause-sound c = c.loop-equation.invariant.sound

pub returns-clause-has : goal.returns-clause-has
returns-clause-has c = λ n t u less found.
    c.loop-equation.invariant.has n t u (omega (arith, less, c.loop-equation-test.false, ap length c.as_slice-equation-items.ensures)) found
