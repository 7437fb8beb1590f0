use Rattle.std.proofs.Common.{sym, ◌∙◌}
use Rattle.cq_lines.proofs.Walking.{begun, goes_behind, goes_on}
use Rattle.cq_lines.proofs.Counting.{counts_end, counts_more, finished_there, walk_more}
use Rattle.cq_lines.specs.declared.stand.Stand.TheVariants as stand
use Rattle.cq_lines.proofs.walk.behind_record.Goals as goal

pub loop-at-init : goal.loop-at-init
loop-at-init c = (begun _ _, c.requires.walk.counts)

pub loop-at-preserved : goal.loop-at-preserved
loop-at-preserved c = (
  goes_on c.args.text.now c.loop-at.at c.loop-at-test.true _ _ _ _ c.loop-at.invariant.0 c.step-next.ensures.0 (sym c.step-next.ensures.1 ∙ c.if-ends.false),
  counts_more c.args.text.now c.loop-at.at c.loop-at.line c.line_behind-line.result c.loop-at.invariant.1 c.loop-at-test.true c.line_behind-line.ensures,
)

pub returns-clause-walk : goal.returns-clause-walk
returns-clause-walk c =
    walk_more c.args.text.now c.args.walk _ _ stand.Record c.requires.walk (finished_there c.args.text.now c.loop-at.at _ _ _ c.loop-at.invariant.0 c.loop-at-test.false)
    (counts_end c.args.text.now c.loop-at.at c.loop-at.line c.loop-at.invariant.1 c.loop-at-test.false)

pub returns-then-ends-clause-walk : goal.returns-then-ends-clause-walk
returns-then-ends-clause-walk c =
    walk_more c.args.text.now c.args.walk _ _ c.step-next.result.0 c.requires.walk
    (goes_behind c.args.text.now c.loop-at.at c.loop-at-test.true _ _ _ _ c.loop-at.invariant.0 c.step-next.ensures.0 (sym c.step-next.ensures.1 ∙ c.if-ends.true))
    (counts_more c.args.text.now c.loop-at.at c.loop-at.line c.line_behind-line.result c.loop-at.invariant.1 c.loop-at-test.true c.line_behind-line.ensures)
