use Rattle.std.proofs.Common.{refl, sym, ◌∙◌}
use Rattle.cq_lines.proofs.Walking.{skips, stays}
use Rattle.cq_lines.proofs.Counting.{counts_end, counts_more, place_is, skips_end}
use Rattle.cq_lines.proofs.walk.find_place.Goals as goal

pub loop-at-init : goal.loop-at-init
loop-at-init c = (refl, c.requires.counts)

pub loop-at-preserved : goal.loop-at-preserved
loop-at-preserved c = (
  c.loop-at.invariant.0 ∙ skips c.args.text.now c.loop-at.at c.loop-at-test.true (sym c.is_end.ensures ∙ c.if-not-is_end.false),
  counts_more c.args.text.now c.loop-at.at c.loop-at.line c.line_behind-line.result c.loop-at.invariant.1 c.loop-at-test.true c.line_behind-line.ensures,
)

pub returns : goal.returns
returns c =
    place_is c.args.text.now c.args.walk _ _ c.requires (skips_end c.args.text.now c.args.walk.at c.loop-at.at c.loop-at.invariant.0 c.loop-at-test.false)
    (counts_end c.args.text.now c.loop-at.at c.loop-at.line c.loop-at.invariant.1 c.loop-at-test.false)

pub returns-then-not-is_end : goal.returns-then-not-is_end
returns-then-not-is_end c =
    place_is c.args.text.now c.args.walk _ _ c.requires
    (c.loop-at.invariant.0 ∙ stays c.args.text.now c.loop-at.at c.loop-at-test.true (sym c.is_end.ensures ∙ c.if-not-is_end.true)) c.loop-at.invariant.1
