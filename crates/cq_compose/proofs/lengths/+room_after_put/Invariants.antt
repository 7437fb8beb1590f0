use Rattle.std.proofs.Common.{◌≡◌, ◌+◌, drop, map, sum}
use Rattle.cq_compose.specs.Counting.{put_symbols}
use Rattle.cq_compose.proofs.lengths.+room_after_put.Given as goal

abbrev pub decreases-room_after_put : goal.decreases-room_after_put
decreases-room_after_put l = goal.size-room_after_put l

abbrev pub invariant-loop-arg : goal.invariant-loop-arg
invariant-loop-arg l = l.room + sum (map (put_symbols l.frame l.at) (drop l.arg-index l.arg-items)) ≡ l.left + put_symbols l.frame l.at l.term
