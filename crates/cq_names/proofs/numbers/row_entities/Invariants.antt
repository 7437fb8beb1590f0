use Rattle.std.proofs.Common.{◌≡◌, take}
use Rattle.cq_names.specs.RowNumbers.{row_entities}
use Rattle.cq_names.proofs.numbers.row_entities.Given as goal

abbrev pub invariant-loop-row : goal.invariant-loop-row
invariant-loop-row l = l.members.items ≡ row_entities l.tables (take l.row-index l.rows)
