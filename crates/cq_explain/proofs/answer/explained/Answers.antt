use Rattle.std.proofs.Common.{◌≡◌, ◌∙◌}
use Rattle.cq_explain.specs.Explained.{IsExplanation}
use Rattle.cq_explain.specs.Explanation.{different_text, equal_text}
use Rattle.cq_explain.proofs.Explaining.{by_difference, by_steps, weaker}
use Rattle.cq_explain.proofs.answer.explained.Goals as goal

pub returns-in-Steps : goal.returns-in-Steps
returns-in-Steps c =
    let i = c.args.instance.now in
    let e = c.args.equation.now in
    weaker (λ text. text ≡ equal_text c.deref.result.now c.presentation.result.now c.as_slice.result.now) (IsExplanation i e) c.equal_text.result
    (λ text is. by_steps i e c.in_ok-steps.field-0 c.in-Steps.steps c.deref.result.now c.presentation.result.now c.as_slice.result.now text c.in-Steps.is
    c.in_ok-steps.ensures (c.deref.ensures ∙ c.schema.ensures.schema) c.presentation.ensures.presentation c.as_slice.ensures.value is)
    c.equal_text.ensures

pub returns-in-Different : goal.returns-in-Different
returns-in-Different c =
    let i = c.args.instance.now in
    let e = c.args.equation.now in
    weaker (λ text. text ≡ different_text i e) (IsExplanation i e) c.different_text.result
    (λ text is. by_difference i e c.in_ok-steps.field-0 text c.in-Different.is c.in_ok-steps.ensures is)
    c.different_text.ensures
