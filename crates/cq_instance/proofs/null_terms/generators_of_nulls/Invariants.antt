use Rattle.std.proofs.Common.{◌≡◌, map}
use Rattle.cq_theory.specs.Canonical.{below}
use Rattle.cq_instance.specs.Spelling.{own_term}
use Rattle.cq_instance.proofs.null_terms.generators_of_nulls.Given as goal

abbrev pub invariant-loop-label : goal.invariant-loop-label
invariant-loop-label l = l.terms.items ≡ map (own_term l.instance) (below l.label)
