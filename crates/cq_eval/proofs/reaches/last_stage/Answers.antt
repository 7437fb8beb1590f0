use Rattle.std.proofs.Common.{length, refl, arith}
use Rattle.cq_eval.proofs.Untested.{later_last, here_last}
use Rattle.cq_eval.proofs.reaches.last_stage.Goals as goal

pub loop-test-preserved : goal.loop-test-preserved
loop-test-preserved c =
    later_last c.args.tests.now c.args.counts.now c.loop-test.test-index c.loop-test.last c.loop-test.invariant c.max-last.result (omega (arith, c.max-last.ensures))
    (here_last c.args.tests.now (length c.args.counts.now) c.loop-test.test-index c.loop-test.last (length c.args.counts.now) c.reach.result c.min.result c.max-last.result
    c.test-item.result c.test-item.is refl c.reach.ensures c.min.ensures c.max-last.ensures)
