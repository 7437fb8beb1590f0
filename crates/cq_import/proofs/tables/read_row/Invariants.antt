use Rattle.std.proofs.Common.{◌+◌}
use Rattle.csv.specs.Records.{fields_of}
use Rattle.cq_import.proofs.CellLists.{AreReading, row_rest}
use Rattle.cq_import.proofs.Rooms.{Fits}
use Rattle.cq_import.proofs.tables.read_row.Given as goal

abbrev pub invariant-loop-place : goal.invariant-loop-place
invariant-loop-place l =
    AreReading l.context l.initial.made l.made (row_rest l.row.file.now l.columns l.row.generator l.row.number (fields_of l.row.fields.now) 0)
    (row_rest l.row.file.now l.columns l.row.generator l.row.number (fields_of l.row.fields.now) l.place)
    × Fits l.context.first l.made.labels
