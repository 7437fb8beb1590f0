use Rattle.std.proofs.Common.{◌≡◌, ◌+◌, drop, map, sum}
use Rattle.cq_mapping.specs.Symbols.{symbols_at}
use Rattle.cq_mapping.proofs.sigma.+room_after.Given as goal

abbrev pub decreases-room_after : goal.decreases-room_after
decreases-room_after l = goal.size-room_after l

abbrev pub invariant-loop-arg : goal.invariant-loop-arg
invariant-loop-arg l = l.room + sum (map (symbols_at l.base) (drop l.arg-index l.arg-items)) ≡ l.left + symbols_at l.base l.term
