use Rattle.std.proofs.Common.{◌≡◌, map, take, slice_index}
use Rattle.cq_names.proofs.numbers.rows_in_groups.Given as goal

abbrev pub invariant-loop-group : goal.invariant-loop-group
invariant-loop-group l = l.order.items ≡ map (map (slice_index l.rows)) (take l.group-index l.groups)
