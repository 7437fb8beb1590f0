use Rattle.std.proofs.Common.{◌≡◌, length, map, take}
use Rattle.cq_theory.specs.declared.value.Value.{Value}
use Rattle.cq_instance.specs.CellRows.{rows_with, indexed_rows}
use Rattle.cq_instance.proofs.cell_index.lists_of.Given as goal

abbrev pub invariant-loop-row : goal.invariant-loop-row
invariant-loop-row l = record {
  length : length l.lists.items ≡ length l.column;
  rows : (value : Value) → indexed_rows (l.hashing, map (λ list. list.items) l.lists.items) value ≡ rows_with (take l.row l.column) value;
}
