use Rattle.std.proofs.Common.{List, ◌+◌, ◌≤◌, length}
use Rattle.cq_import.specs.Records.{Record, Remains}
use Rattle.cq_import.proofs.Rooms.{Fits}
use Rattle.cq_import.proofs.Tabled.{AreTabled}
use Rattle.cq_import.proofs.tables.read_rows.Given as goal

abbrev pub invariant-loop-number : goal.invariant-loop-number
invariant-loop-number l =
    Fits l.context.first l.made.labels
    × (1 ≤ l.number)
    × ((rows : List Record) → Remains l.fn.reader rows → l.table.start + length rows ≤ 16000000 → AreTabled l.context l.table.file.now l.table.columns.now l.table.start l.number l.initial.made l.made l.reader rows)
