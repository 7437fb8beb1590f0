use Rattle.std.proofs.Common.{◌≡◌, None, map}
use Rattle.cq_theory.specs.Canonical.{below}
use Rattle.cq_instance.proofs.null_terms.known.nothing_known.Given as goal

abbrev pub invariant-loop-null : goal.invariant-loop-null
invariant-loop-null l = l.known.items ≡ map (λ _. None) (below l._null)
