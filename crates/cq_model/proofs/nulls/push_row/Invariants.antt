use Rattle.std.proofs.Common.{◌≡◌, ◌++◌, map, take, slice_index}
use Rattle.cq_model.proofs.nulls.push_row.Given as goal

abbrev pub invariant-loop-place : goal.invariant-loop-place
invariant-loop-place l = l.types.items ≡ l.initial.types.items ++ map (slice_index l.targets) (take l.place-index l.places)
