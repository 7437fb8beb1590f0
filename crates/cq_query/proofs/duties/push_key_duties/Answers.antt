use Rattle.std.proofs.Common.{ℕ}
use Rattle.std.specs.Prelude.{slice_get}
use Rattle.cq_query.specs.Duties.{key_duties}
use Rattle.cq_query.proofs.Lists.{pushed_more}
use Rattle.cq_query.proofs.duties.push_key_duties.Goals as goal

pub loop-key-preserved : goal.loop-key-preserved
loop-key-preserved c =
    pushed_more (λ (k : ℕ). key_duties c.args.query.now k (slice_get c.args.query.now.target.keys k)) c.args.made.now.items c.loop-key.made.items _ c.keys_from-key-items.result.now _ c.loop-key.key-index 0
    c.keys_from-key-items.ensures c.loop-key-test.true c.loop-key.invariant c.in_ok-push_key_duty.ensures
