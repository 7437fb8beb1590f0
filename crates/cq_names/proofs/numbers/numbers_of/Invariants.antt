use Rattle.std.proofs.Common.{◌≡◌, length, replicate}
use Rattle.cq_names.proofs.Spreads.{AreSpread}
use Rattle.cq_names.proofs.numbers.numbers_of.Given as goal

abbrev pub invariant-loop-place : goal.invariant-loop-place
invariant-loop-place l = record {
  spread : AreSpread (replicate l.entities 0) l.members l.rows (λ _. 1) l.entities l.place l.counts.items l.numbers.items;
  size : length l.numbers.items ≡ l.made;
  counts_size : length l.counts.items ≡ l.entities;
}
