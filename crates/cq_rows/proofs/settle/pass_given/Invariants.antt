use Rattle.cq_rows.specs.Origin.{theory_at}
use Rattle.cq_rows.specs.Entries.{rows_of}
use Rattle.cq_rows.specs.Rows.{Passes}
use Rattle.cq_rows.proofs.Equations.{HoldUnder}
use Rattle.cq_rows.proofs.settle.pass_given.Given as goal

abbrev pub invariant-loop-place : goal.invariant-loop-place
invariant-loop-place l = Passes (theory_at l.origin) l.fn.tables l.tables l.fn.rows l.rows l.merged (HoldUnder (theory_at l.origin) l.fn.tables (rows_of l.fn.rows) l.place)
