use Rattle.cq_rows.proofs.Filling.{IsFilling}
use Rattle.cq_rows.proofs.fill.fill.Given as goal

abbrev pub invariant-loop-row : goal.invariant-loop-row
invariant-loop-row l = IsFilling l.fn.tables l.tables l.row
