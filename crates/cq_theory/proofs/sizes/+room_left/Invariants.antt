use Rattle.std.proofs.Common.{◌≡◌, ◌+◌, drop, map, sum}
use Rattle.cq_theory.specs.TypeTerm.{symbols_of}
use Rattle.cq_theory.proofs.sizes.+room_left.Given as goal

abbrev pub decreases-room_left : goal.decreases-room_left
decreases-room_left l = goal.size-room_left l

abbrev pub invariant-loop-arg : goal.invariant-loop-arg
invariant-loop-arg l = l.room + sum (map symbols_of (drop l.arg-index l.arg-items)) ≡ l.left + symbols_of l.term
