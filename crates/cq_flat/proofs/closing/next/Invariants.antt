use Rattle.std.proofs.Common.{vec_len, slice_index}
use Rattle.cq_flat.proofs.Skipping.{IsSkipping}
use Rattle.cq_flat.proofs.closing.next.Given as goal

abbrev pub invariant-loop-a : goal.invariant-loop-a
invariant-loop-a l = IsSkipping (slice_index l.classes) l.initial.pending.items l.pending.items

abbrev pub decreases-loop-a : goal.decreases-loop-a
decreases-loop-a l = vec_len l.pending
