use Rattle.std.proofs.Common.{length}
use Rattle.cq_compose.proofs.lengths.+room_after.Given as goal

abbrev pub decreases-room_after : goal.decreases-room_after
decreases-room_after l = length l.path.now
