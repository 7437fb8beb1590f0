use Rattle.std.proofs.Common.{◌≡◌, map, take}
use Rattle.cq_tables.specs.Content.{cell_of}
use Rattle.cq_model.specs.Built.{number_in}
use Rattle.cq_model.proofs.reading.key_column.Given as goal

abbrev pub invariant-loop-row : goal.invariant-loop-row
invariant-loop-row l = l.column.items ≡ map (λ r. number_in l.numbers (cell_of l.tables r l.key)) (take l.row-index l.rows)
