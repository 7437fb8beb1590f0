use Rattle.std.proofs.Common.{◌≡◌, map, take, slice_index}
use Rattle.cq_names.proofs.numbers.rows_in_group.Given as goal

abbrev pub invariant-loop-place : goal.invariant-loop-place
invariant-loop-place l = l.group.items ≡ map (slice_index l.rows) (take l.place-index l.places)
