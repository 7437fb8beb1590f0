use Rattle.std.proofs.Common.{◌≡◌, ℕ, ◌<◌, true}
use Rattle.cq_tables.specs.Content.{live_of}
use Rattle.cq_rows.specs.Rows.{RowFilled}
use Rattle.cq_rows.proofs.fill.all_filled.Given as goal

abbrev pub invariant-loop-row : goal.invariant-loop-row
invariant-loop-row l = (r : ℕ) → r < l.row → live_of l.tables r ≡ true → RowFilled l.tables r
