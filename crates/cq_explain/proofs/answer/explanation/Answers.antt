use Rattle.std.proofs.Common.{◌∙◌, sym, subst}
use Rattle.std.proofs.lemmas.Result.{err_from_is_err_and}
use Rattle.cq_theory.specs.declared.presentation.Equation.{Equation}
use Rattle.cq_explain.specs.Explained.{IsExplanation}
use Rattle.cq_explain.proofs.Explaining.{asked_is, asks_over}
use Rattle.cq_explain.proofs.answer.explanation.Goals as goal

pub returns-in_err-equation-clause-only : goal.returns-in_err-equation-clause-only
returns-in_err-equation-clause-only c = λ equation asks.
    let p = err_from_is_err_and c.from_residual.result c.from_residual.ensures.1 in
    rw (p.1, p.2)
    (c.in_err-equation.ensures.only equation
    (asks_over _ _ _ _ c.args.left.now c.args.right.now equation (sym (c.deref.ensures ∙ c.schema-schema.ensures.schema))
    (sym c.presentation-presentation.ensures.presentation) asks))

pub explained-requires-clause-equation : goal.explained-requires-clause-equation
explained-requires-clause-equation c =
    asked_is c.args.instance.now.schema c.args.instance.now.presentation c.args.left.now c.args.right.now c.in_ok-equation.equation
    (asks_over _ _ _ _ c.args.left.now c.args.right.now c.in_ok-equation.equation (c.deref.ensures ∙ c.schema-schema.ensures.schema)
    c.presentation-presentation.ensures.presentation c.in_ok-equation.ensures.asks)

pub returns-in-Ok-clause-explained : goal.returns-in-Ok-clause-explained
returns-in-Ok-clause-explained c = record {
  equation = c.in_ok-equation.equation;
  asks = asks_over _ _ _ _ c.args.left.now c.args.right.now c.in_ok-equation.equation (c.deref.ensures ∙ c.schema-schema.ensures.schema)
      c.presentation-presentation.ensures.presentation c.in_ok-equation.ensures.asks;
  explains = c.in-Ok.ensures;
}

pub returns-in-Ok-clause-only : goal.returns-in-Ok-clause-only
returns-in-Ok-clause-only c = λ equation asks.
    subst (λ (e : Equation). IsExplanation c.args.instance.now e c.in-Ok.text.items)
    (c.in_ok-equation.ensures.only equation
    (asks_over _ _ _ _ c.args.left.now c.args.right.now equation (sym (c.deref.ensures ∙ c.schema-schema.ensures.schema))
    (sym c.presentation-presentation.ensures.presentation) asks))
    c.in-Ok.ensures
