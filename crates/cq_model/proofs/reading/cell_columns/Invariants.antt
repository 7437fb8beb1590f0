use Rattle.std.proofs.Common.{◌≡◌, map, take}
use Rattle.std.specs.List.{enumerate_from}
use Rattle.cq_flat.specs.Values.{value_at}
use Rattle.cq_names.specs.LeastNames.{rows_at}
use Rattle.cq_model.specs.NodeTerms.{cell_place}
use Rattle.cq_model.proofs.reading.cell_columns.Given as goal

abbrev pub invariant-loop-attribute : goal.invariant-loop-attribute
invariant-loop-attribute l = l.columns.items ≡ map (λ a. map (λ r. value_at l.closed.flat.now.values (cell_place l.closed.places.now r a.0)) (rows_at l.order a.1.from)) (enumerate_from 0 (take l.attribute l.attributes))
