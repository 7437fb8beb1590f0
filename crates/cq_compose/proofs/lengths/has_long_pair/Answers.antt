use Rattle.std.proofs.Common.{sym, ◌∙◌, arith}
use Rattle.cq_compose.specs.Frame.{terms_of}
use Rattle.cq_compose.proofs.Measuring.{pairs_end}
use Rattle.cq_compose.proofs.lengths.has_long_pair.Goals as goal

pub returns : goal.returns
returns c =
    sym (pairs_end (terms_of c.args.frame.now c.args.left.now) (terms_of c.args.frame.now c.args.right.now) c.loop-place.place
    (omega (arith, c.min-count.ensures, c.component_count.ensures, c.component_count-2.ensures, c.loop-place-test.false)))
    ∙ c.loop-place.invariant
