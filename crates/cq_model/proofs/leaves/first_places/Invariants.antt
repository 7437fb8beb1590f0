use Rattle.std.proofs.Common.{◌≡◌, [], length, get_or}
use Rattle.cq_names.proofs.Spreads.{AreSpread}
use Rattle.cq_model.proofs.leaves.first_places.Given as goal

abbrev pub invariant-loop-place : goal.invariant-loop-place
invariant-loop-place l = record {
  spread : AreSpread l.fn.starts.items l.members l.rows (λ e. length (get_or l.attributes e [])) (length l.attributes) l.place l.next.items l.firsts.items;
  size : length l.firsts.items ≡ l.made;
  next_size : length l.next.items ≡ length l.attributes;
}
