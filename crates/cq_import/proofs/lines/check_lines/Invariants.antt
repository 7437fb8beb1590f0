use Rattle.std.proofs.Common.{List, ◌+◌, ◌≤◌}
use Rattle.cq_import.specs.Records.{Record, Remains}
use Rattle.cq_import.proofs.Stepping.{AreCounted}
use Rattle.cq_import.proofs.lines.check_lines.Given as goal

abbrev pub invariant-loop-number : goal.invariant-loop-number
invariant-loop-number l = (l.nulls + 1 ≤ l.number) × ((rows : List Record) → Remains l.fn.reader rows → AreCounted l.file rows l.number l.nulls l.reader)
