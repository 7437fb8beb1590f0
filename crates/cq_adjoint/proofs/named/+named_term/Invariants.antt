use Rattle.std.proofs.Common.{◌≡◌, map, take}
use Rattle.cq_adjoint.specs.Moves.{spelled_value}
use Rattle.cq_instance.specs.Spelling.{term_among}
use Rattle.cq_adjoint.proofs.named.+named_term.Given as goal

abbrev pub decreases-named_term : goal.decreases-named_term
decreases-named_term l = goal.size-named_term l

abbrev pub invariant-loop-arg : goal.invariant-loop-arg
invariant-loop-arg l = l.made.items ≡ map (spelled_value (term_among l.naming.null_terms.now)) (take l.arg-index l.arg-items)
