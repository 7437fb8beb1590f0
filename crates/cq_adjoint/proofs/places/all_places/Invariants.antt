use Rattle.std.proofs.Common.{◌≡◌, map, take}
use Rattle.cq_adjoint.proofs.places.all_places.Given as goal

abbrev pub invariant-loop-list : goal.invariant-loop-list
invariant-loop-list l = l.made.items ≡ map (λ list. map (λ rows. rows.items) list.items) (take l.list-index l.answers)
