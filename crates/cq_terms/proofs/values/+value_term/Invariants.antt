use Rattle.std.proofs.Common.{◌≡◌, map, take}
use Rattle.cq_terms.specs.ValueTerms.{value_term}
use Rattle.cq_terms.proofs.values.+value_term.Given as goal

abbrev pub decreases-value_term : goal.decreases-value_term
decreases-value_term l = goal.size-value_term l

abbrev pub invariant-loop-arg : goal.invariant-loop-arg
invariant-loop-arg l = l.made.items ≡ map (value_term l.first l.count) (take l.arg-index l.arg-items)
