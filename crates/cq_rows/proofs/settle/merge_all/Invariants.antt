use Rattle.cq_rows.specs.Origin.{theory_at}
use Rattle.cq_rows.specs.Rows.{live_count, IsSettling}
use Rattle.cq_rows.proofs.settle.merge_all.Given as goal

abbrev pub invariant-loop-merged : goal.invariant-loop-merged
invariant-loop-merged l = IsSettling (theory_at l.origin) l.fn.tables l.tables l.fn.rows l.rows

abbrev pub decreases-loop-merged : goal.decreases-loop-merged
decreases-loop-merged l = live_count l.tables
