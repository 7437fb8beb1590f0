use Rattle.std.proofs.Common.{ℕ, ◌<◌}
use Rattle.cq_rows.specs.Origin.{theory_at}
use Rattle.cq_rows.specs.Rows.{Passes, HoldIfLive}
use Rattle.cq_rows.proofs.settle.pass_rules.Given as goal

abbrev pub invariant-loop-row : goal.invariant-loop-row
invariant-loop-row l = Passes (theory_at l.origin) l.fn.tables l.tables l.fn.rows l.rows l.merged ((r : ℕ) → r < l.row → HoldIfLive (theory_at l.origin) l.fn.tables r)
