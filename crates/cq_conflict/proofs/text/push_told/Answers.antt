use Rattle.cq_conflict.specs.Text.{line_of}
use Rattle.cq_explain.proofs.Texts.{numbered_more}
use Rattle.cq_conflict.proofs.text.push_told.Goals as goal

pub loop-line-preserved : goal.loop-line-preserved
loop-line-preserved c =
    numbered_more (line_of c.args.shown.now.schema.now c.args.shown.now.presentation.now c.args.shown.now.steps.now c.args.shown.now.notes.now) _ _ _ c.args.told.now c.loop-line.line
    c.index-told-line.result c.loop-line-test.true c.index-told-line.is c.loop-line.invariant c.in_ok-push_line.ensures
