use Rattle.std.proofs.Common.{◌≡◌, ◌≤◌}
use Rattle.cq_rows.specs.Rows.{live_below}
use Rattle.cq_rows.proofs.fill.count_live.Given as goal

abbrev pub invariant-loop-row : goal.invariant-loop-row
invariant-loop-row l = (l.count ≡ live_below l.tables l.row) × (l.count ≤ l.row)
