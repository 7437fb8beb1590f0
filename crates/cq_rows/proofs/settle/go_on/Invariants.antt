use Rattle.cq_rows.specs.Origin.{theory_at}
use Rattle.cq_rows.specs.Rows.{Continues}
use Rattle.cq_rows.proofs.settle.go_on.Given as goal

abbrev pub invariant-loop-turn : goal.invariant-loop-turn
invariant-loop-turn l = Continues (theory_at l.origin) l.fn.tables l.tables l.fn.rows l.rows
