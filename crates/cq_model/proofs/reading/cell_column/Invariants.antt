use Rattle.std.proofs.Common.{◌≡◌, map, take}
use Rattle.cq_flat.specs.Values.{value_at}
use Rattle.cq_model.specs.NodeTerms.{cell_place}
use Rattle.cq_model.proofs.reading.cell_column.Given as goal

abbrev pub invariant-loop-row : goal.invariant-loop-row
invariant-loop-row l = l.column.items ≡ map (λ r. value_at l.closed.flat.now.values (cell_place l.closed.places.now r l.attribute)) (take l.row-index l.rows)
