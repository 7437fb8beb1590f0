use Rattle.std.proofs.Common.{ℕ, ◌<◌}
use Rattle.cq_rows.specs.Theory.{Closes}
use Rattle.cq_rows.specs.Origin.{theory_at, AreListed}
use Rattle.cq_rows.specs.Entries.{rows_of, IsCurrent}
use Rattle.cq_rows.specs.Stage.{IsStage}
use Rattle.cq_rows.proofs.grow.grow.Given as goal

abbrev pub invariant-loop-stage : goal.invariant-loop-stage
invariant-loop-stage l = record {
  stage : IsStage (theory_at l.origin) l.tables (rows_of l.rows) l._stage;
  listed : AreListed l.origin l.tables;
  current : IsCurrent l.tables l.rows;
  opened : (i : ℕ) → i < l._stage → Closes (theory_at l.origin) i → ⊥;
}
