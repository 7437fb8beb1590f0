use Rattle.std.proofs.Common.{◌≡◌, ◌+◌, drop, map, sum}
use Rattle.cq_compose.specs.Counting.{translated_symbols}
use Rattle.cq_compose.proofs.lengths.+room_after_translated.Given as goal

abbrev pub decreases-room_after_translated : goal.decreases-room_after_translated
decreases-room_after_translated l = goal.size-room_after_translated l

abbrev pub invariant-loop-arg : goal.invariant-loop-arg
invariant-loop-arg l = l.room + sum (map (translated_symbols l.frame) (drop l.arg-index l.arg-items)) ≡ l.left + translated_symbols l.frame l.term
