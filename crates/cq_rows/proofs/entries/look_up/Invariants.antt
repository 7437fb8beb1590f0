use Rattle.std.proofs.Common.{◌≡◌, ℕ, ◌<◌, ◌≤◌, get_or}
use Rattle.cq_rows.specs.Entries.{row_now}
use Rattle.cq_rows.proofs.entries.look_up.Given as goal

abbrev pub invariant-loop-row : goal.invariant-loop-row
invariant-loop-row l = record {
  same : l.renamings ≡ l.fn.renamings;
  walked : (i : ℕ) → i < l.row-index → get_or l.rows i 0 ≡ row_now l.fn.renamings (get_or l.initial.rows i 0);
  rest : (i : ℕ) → l.row-index ≤ i → get_or l.rows i 0 ≡ get_or l.initial.rows i 0;
}
