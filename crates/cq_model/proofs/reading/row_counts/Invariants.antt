use Rattle.std.proofs.Common.{◌≡◌, map, length, take}
use Rattle.cq_model.proofs.reading.row_counts.Given as goal

abbrev pub invariant-loop-rows : goal.invariant-loop-rows
invariant-loop-rows l = l.counts.items ≡ map length (take l.rows-index l.order)
