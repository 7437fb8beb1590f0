use Rattle.std.proofs.Common.{vec_len}
use Rattle.cq_conflict.proofs.Seen.{AreWaiting}
use Rattle.cq_conflict.proofs.chains.cited_by.Given as goal

abbrev pub invariant-waiting : goal.invariant-waiting
invariant-waiting l = AreWaiting l.steps l.cited.items l.waiting.items l.step.from

abbrev pub decreases-waiting : goal.decreases-waiting
decreases-waiting l = vec_len l.waiting
