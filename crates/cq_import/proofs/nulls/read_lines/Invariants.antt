use Rattle.std.proofs.Common.{List}
use Rattle.cq_import.specs.Records.{Record, Remains}
use Rattle.cq_import.proofs.Stepping.{AreGiven}
use Rattle.cq_import.proofs.nulls.read_lines.Given as goal

abbrev pub invariant-loop-number : goal.invariant-loop-number
invariant-loop-number l = (rows : List Record) → Remains l.fn.reader rows → AreGiven l.typeside l.file l.initial.labels rows l.number l.labels l.reader
