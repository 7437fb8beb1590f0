use Rattle.std.proofs.Common.{◌≡◌, drop}
use Rattle.cq_instance.specs.CellRows.{group_rows}
use Rattle.cq_instance.proofs.cell_index.rows_in.Given as goal

abbrev pub invariant-loop-group : goal.invariant-loop-group
invariant-loop-group l = group_rows (drop l.group-index l.groups) l.value ≡ group_rows l.groups l.value
