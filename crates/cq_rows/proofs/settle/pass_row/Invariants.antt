use Rattle.cq_rows.specs.Origin.{theory_at}
use Rattle.cq_rows.specs.Rows.{Passes}
use Rattle.cq_rows.proofs.ByEntity.{HoldAt}
use Rattle.cq_rows.proofs.settle.pass_row.Given as goal

abbrev pub invariant-loop-place : goal.invariant-loop-place
invariant-loop-place l = Passes (theory_at l.origin) l.fn.tables l.tables l.fn.rows l.rows l.merged (HoldAt (theory_at l.origin) l.fn.tables l.row l.place-items l.place-index)
