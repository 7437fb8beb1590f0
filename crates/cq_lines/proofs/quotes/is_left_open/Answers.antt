use Rattle.std.proofs.Common.{◌∙◌, sym}
use Rattle.cq_lines.proofs.Opening.{open_at_end, open_ended, open_further}
use Rattle.cq_lines.proofs.quotes.is_left_open.Goals as goal

pub loop-byte-preserved : goal.loop-byte-preserved
loop-byte-preserved c =
    c.loop-byte.invariant ∙ open_further c.args.text.now c.loop-byte.byte-index c.loop-byte-test.true _ _ c.step-next.ensures.0 (sym c.step-next.ensures.1 ∙ c.if-ends.false)

pub returns-then-ends : goal.returns-then-ends
returns-then-ends c = sym (c.loop-byte.invariant ∙ open_ended c.args.text.now c.loop-byte.byte-index c.loop-byte-test.true _ (sym c.step-next.ensures.1 ∙ c.if-ends.true))

pub returns : goal.returns
returns c = c.is_in_quotes.ensures ∙ sym (c.loop-byte.invariant ∙ open_at_end c.args.text.now c.loop-byte.byte-index _ c.loop-byte-test.false)
