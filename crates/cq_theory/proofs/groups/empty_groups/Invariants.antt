use Rattle.std.proofs.Common.{◌≡◌, [], map}
use Rattle.cq_theory.specs.Canonical.{below}
use Rattle.cq_theory.proofs.groups.empty_groups.Given as goal

abbrev pub invariant-loop-number : goal.invariant-loop-number
invariant-loop-number g l = map (λ group. group.items) l.groups.items ≡ map (λ _. []) (below l._number)
