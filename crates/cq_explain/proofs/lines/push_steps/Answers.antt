use Rattle.cq_explain.specs.Explanation.{step_line}
use Rattle.cq_explain.proofs.Texts.{numbered_more}
use Rattle.cq_explain.proofs.lines.push_steps.Goals as goal

pub loop-number-preserved : goal.loop-number-preserved
loop-number-preserved c =
    numbered_more (step_line c.args.schema.now c.args.presentation.now) _ _ _ c.args.steps.now c.loop-number.number c.index-steps-number.result c.loop-number-test.true
    c.index-steps-number.is c.loop-number.invariant c.in_ok-push_step.ensures
