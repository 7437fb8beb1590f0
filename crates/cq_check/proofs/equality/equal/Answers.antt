use Rattle.std.proofs.Common.{Err, ap, subst}
use Rattle.cq_check.specs.Answers.{IsDerived}
use Rattle.cq_theory.specs.SchemaData.{SchemaData as Schema}
use Rattle.cq_check.proofs.equality.equal.Goals as goal

pub returns-in-Ok-clause-answer : goal.returns-in-Ok-clause-answer
returns-in-Ok-clause-answer c = subst (λ (S : Schema). IsDerived S c.args.presentation.now c.args.equation.now) c.deref.ensures c.in-Ok.ensures.derived

pub returns-in-Err-NotPreserved-clause-answer : goal.returns-in-Err-NotPreserved-clause-answer
returns-in-Err-NotPreserved-clause-answer c =
    subst (λ (S : Schema). IsDerived S c.args.presentation.now c.args.equation.now → ⊥) c.deref.ensures
    (c.in-Err-NotPreserved.ensures.not_derivable c.in-Err-NotPreserved.field-0-0 (ap Err c.in-Err-NotPreserved.field-0-is))
