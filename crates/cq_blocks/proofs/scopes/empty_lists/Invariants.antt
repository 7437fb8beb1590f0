use Rattle.std.proofs.Common.{◌≡◌, [], map}
use Rattle.cq_theory.specs.Canonical.{below}
use Rattle.cq_blocks.proofs.scopes.empty_lists.Given as goal

abbrev pub invariant-loop-number : goal.invariant-loop-number
invariant-loop-number l = map (λ list. list.items) l.lists.items ≡ map (λ _. []) (below l._number)
