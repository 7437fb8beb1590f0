use Rattle.std.proofs.Common.{sym, subst}
use Rattle.std.specs.Prelude.{IfOk}
use Rattle.cq_check.specs.Answers.{IsWellSorted, IsDerived, IsTooDeep, IsTooWide}
use Rattle.cq_theory.specs.Presentation.{IsPresentation}
use Rattle.cq_theory.specs.SchemaData.{SchemaData as Schema}
use Rattle.cq_check.proofs.equality.check_alone.Goals as goal

pub check_duty-requires-clause-prepared : goal.check_duty-requires-clause-prepared
check_duty-requires-clause-prepared c = c.in_ok-prepared.ensures.prepared

pub check_duty-requires-clause-presentation : goal.check_duty-requires-clause-presentation
check_duty-requires-clause-presentation c = subst (λ (S : Schema). IsPresentation S c.args.presentation.now) (sym c.in_ok-prepared.ensures.schema) c.requires.presentation

pub check_duty-requires-clause-sorted : goal.check_duty-requires-clause-sorted
check_duty-requires-clause-sorted c = subst (λ (S : Schema). IsWellSorted S c.args.presentation.now c.args.equation.now) (sym c.in_ok-prepared.ensures.schema) c.requires.sorted

pub returns-clause-derived : goal.returns-clause-derived
returns-clause-derived c =
    subst (λ (S : Schema). IfOk c.check_duty.result (λ _. IsDerived S c.args.presentation.now c.args.equation.now)) c.in_ok-prepared.ensures.schema c.check_duty.ensures.derived

pub returns-clause-not_derivable : goal.returns-clause-not_derivable
returns-clause-not_derivable c = λ n same.
    subst (λ (S : Schema). IsDerived S c.args.presentation.now c.args.equation.now → ⊥) c.in_ok-prepared.ensures.schema (c.check_duty.ensures.not_derivable n same).1

pub returns-clause-deep : goal.returns-clause-deep
returns-clause-deep c = λ n same.
    subst (λ (S : Schema). IsTooDeep S c.args.presentation.now c.args.equation.now c.args.depth) c.in_ok-prepared.ensures.schema (c.check_duty.ensures.deep n same).1

pub returns-clause-many : goal.returns-clause-many
returns-clause-many c = λ n same.
    subst (λ (S : Schema). IsTooWide S c.args.presentation.now c.args.equation.now c.args.depth) c.in_ok-prepared.ensures.schema (c.check_duty.ensures.many n same).1
