use Rattle.std.proofs.Common.{◌≡◌, ℕ, length}
use Rattle.cq_rows.specs.Entries.{row_now}
use Rattle.cq_rows.proofs.entries.Entries.cover.Given as goal

abbrev pub invariant-loop-row : goal.invariant-loop-row
invariant-loop-row l = record {
  count : length l.self.renamings ≡ l._row;
  first : l.self.first ≡ l.fn.self.first;
  same : (r : ℕ) → row_now l.self.renamings r ≡ row_now l.fn.self.renamings r;
}
