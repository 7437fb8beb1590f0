use Rattle.std.proofs.Common.{◌≡◌, ◌++◌, map, take, slice_index}
use Rattle.std.specs.List.{flat_map}
use Rattle.cq_model.proofs.nulls.push_entity.Given as goal

abbrev pub invariant-loop-row : goal.invariant-loop-row
invariant-loop-row l = l.types.items ≡ l.initial.types.items ++ flat_map (λ row. map (slice_index l.targets) l.places) (take l._row-index l.rows)
