use Rattle.std.proofs.Common.{List, ◌+◌, length}
use Rattle.cq_import.specs.Records.{Record, Remains}
use Rattle.cq_cells.proofs.Rowing.{AreFound, AreNoted}
use Rattle.cq_cells.proofs.rows.check_rows.Given as goal

abbrev pub invariant-loop-number : goal.invariant-loop-number
invariant-loop-number l =
    ((rows : List Record) → Remains l.fn.reader rows
    → AreFound l.tested.file (length l.tested.wanted.now) (l.number + 1) l.initial.faults l.faults l.places l.reader rows)
    × ((rows : List Record) → Remains l.fn.reader rows → AreNoted l.number l.places l.reader rows)
