use Rattle.std.proofs.Common.{ℕ, List}
use Rattle.cq_import.specs.Records.{Record, Remains}
use Rattle.cq_cells.proofs.Tabling.{AreTabled}
use Rattle.cq_cells.proofs.tables.read_rows.Given as goal

abbrev pub invariant-loop-number : goal.invariant-loop-number
invariant-loop-number l = (rows : List Record) (generator : ℕ) → Remains l.fn.reader rows
    → AreTabled l.over l.table.file l.table.columns.now generator l.number l.initial.pass l.pass l.reader rows
