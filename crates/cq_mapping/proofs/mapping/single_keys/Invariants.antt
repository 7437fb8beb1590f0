use Rattle.std.proofs.Common.{◌≡◌, ◌∷◌, [], map}
use Rattle.cq_theory.specs.Canonical.{below}
use Rattle.cq_mapping.proofs.mapping.single_keys.Given as goal

abbrev pub invariant-loop-key : goal.invariant-loop-key
invariant-loop-key l = l.made.items ≡ map (λ k. k ∷ []) (below l.key)
