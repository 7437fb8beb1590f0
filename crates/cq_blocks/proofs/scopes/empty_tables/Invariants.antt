use Rattle.std.proofs.Common.{◌≡◌, [], map}
use Rattle.cq_theory.specs.Canonical.{below}
use Rattle.cq_blocks.proofs.scopes.empty_tables.Given as goal

abbrev pub invariant-loop-number : goal.invariant-loop-number
invariant-loop-number l = l.tables.items ≡ map (λ _. []) (below l._number)
