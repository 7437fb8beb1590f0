use Rattle.std.proofs.Common.{List, ◌≡◌}
use Rattle.cq_import.specs.Records.{Record, Remains}
use Rattle.cq_import.proofs.Stepping.{AreEntered}
use Rattle.cq_import.proofs.entries.read_lines.Given as goal

abbrev pub invariant-loop-number : goal.invariant-loop-number
invariant-loop-number l =
    (l.made.labels ≡ l.initial.made.labels)
    × ((rows : List Record) → Remains l.fn.reader rows → AreEntered l.over.typeside.now l.over.file.now l.over.first l.initial.made.labels l.initial.made.equations.items rows l.number l.made.equations.items l.reader)
