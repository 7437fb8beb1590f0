use Rattle.std.proofs.Common.{List, ◌≡◌, ◌+◌, length}
use Rattle.cq_import.specs.Records.{Record, Remains}
use Rattle.cq_import.proofs.Checked.{AreChecked}
use Rattle.cq_import.proofs.rows.check_rows.Given as goal

abbrev pub invariant-loop-number : goal.invariant-loop-number
invariant-loop-number l = (length l.ids + 1 ≡ l.number) × ((rows : List Record) → Remains l.fn.reader rows → AreChecked l.file l.count l.number l.ids l.reader rows)
