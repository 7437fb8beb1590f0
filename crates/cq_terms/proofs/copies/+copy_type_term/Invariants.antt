use Rattle.std.proofs.Common.{◌≡◌, take}
use Rattle.cq_terms.proofs.copies.+copy_type_term.Given as goal

abbrev pub decreases-copy_type_term : goal.decreases-copy_type_term
decreases-copy_type_term l = goal.size-copy_type_term l

abbrev pub invariant-loop-arg : goal.invariant-loop-arg
invariant-loop-arg l = l.made.items ≡ take l.arg-index l.arg-items
