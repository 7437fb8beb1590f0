use Rattle.std.proofs.Common.{◌≡◌, ◌+◌, drop, map, sum}
use Rattle.cq_theory.specs.Value.{symbols_of}
use Rattle.cq_theory.proofs.sizes.+room_after.Given as goal

abbrev pub decreases-room_after : goal.decreases-room_after
decreases-room_after l = goal.size-room_after l

abbrev pub invariant-loop-arg : goal.invariant-loop-arg
invariant-loop-arg l = l.room + sum (map symbols_of (drop l.arg-index l.arg-items)) ≡ l.left + symbols_of l.value
