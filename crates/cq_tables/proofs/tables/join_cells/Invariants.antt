use Rattle.std.proofs.Common.{◌≡◌, ℕ, ◌<◌, ◌≤◌, ◌+◌, ◌-◌, ◌++◌, ◌⊎◌, length, get_or, None, vec_len, vec_capacity}
use Rattle.cq_tables.specs.Changes.{first_of}
use Rattle.cq_tables.specs.Places.{pairs_at}
use Rattle.cq_tables.proofs.tables.join_cells.Given as goal

abbrev pub invariant-loop-k : goal.invariant-loop-k
invariant-loop-k l = record {
  room : vec_len l.given + (l.width - l.k) ≤ vec_capacity l.given;
  given : l.given.items ≡ l.initial.given.items ++ pairs_at l.initial.cells.cells l.into l.out l.k;
  joined : (j : ℕ) → j < l.k → get_or l.cells.cells (l.into + j) None ≡ first_of (get_or l.initial.cells.cells (l.into + j) None) (get_or l.initial.cells.cells (l.out + j) None);
  emptied : (j : ℕ) → j < l.k → get_or l.cells.cells (l.out + j) None ≡ None;
  rest : (i : ℕ) → (i < l.into) ⊎ (l.into + l.k ≤ i) → (i < l.out) ⊎ (l.out + l.k ≤ i) → get_or l.cells.cells i None ≡ get_or l.initial.cells.cells i None;
  len : length l.cells.cells ≡ length l.initial.cells.cells;
  counts : length l.cells.counts ≡ length l.initial.cells.counts;
}
