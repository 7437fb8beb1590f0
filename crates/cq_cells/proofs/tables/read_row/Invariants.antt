use Rattle.std.proofs.Common.{ℕ}
use Rattle.csv.specs.Records.{fields_of}
use Rattle.cq_import.proofs.CellLists.{row_rest}
use Rattle.cq_cells.proofs.Passing.{Goes}
use Rattle.cq_cells.proofs.tables.read_row.Given as goal

abbrev pub invariant-loop-place : goal.invariant-loop-place
invariant-loop-place l = (generator : ℕ) → Goes l.over l.initial.pass l.pass
    (λ name. row_rest (name l.table.file) l.table.columns.now generator l.number (fields_of l.fields) 0)
    (λ name. row_rest (name l.table.file) l.table.columns.now generator l.number (fields_of l.fields) l.place)
