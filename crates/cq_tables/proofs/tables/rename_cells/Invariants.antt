use Rattle.std.proofs.Common.{◌≡◌, ◌≤◌, ℕ, length, get_or, None}
use Rattle.cq_tables.specs.Changes.{moved_cell}
use Rattle.cq_tables.proofs.tables.rename_cells.Given as goal

abbrev pub invariant-loop-place : goal.invariant-loop-place
invariant-loop-place l = record {
  moved : (i : ℕ) → moved_cell l.from l.to (get_or l.cells.cells i None) ≡ moved_cell l.from l.to (get_or l.initial.cells.cells i None);
  len : length l.cells.cells ≡ length l.initial.cells.cells;
  counts : length l.cells.counts ≡ length l.initial.cells.counts;
  room : get_or l.cells.counts l.from 0 ≤ get_or l.cells.room l.to 0;
}

abbrev pub decreases-loop-place : goal.decreases-loop-place
decreases-loop-place l = get_or l.cells.counts l.from 0
