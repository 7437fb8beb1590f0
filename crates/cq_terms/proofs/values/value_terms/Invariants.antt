use Rattle.std.proofs.Common.{◌≡◌, map, take}
use Rattle.cq_terms.specs.ValueTerms.{value_term}
use Rattle.cq_terms.proofs.values.value_terms.Given as goal

abbrev pub invariant-loop-value : goal.invariant-loop-value
invariant-loop-value l = l.made.items ≡ map (value_term l.first l.count) (take l.value-index l.values)
