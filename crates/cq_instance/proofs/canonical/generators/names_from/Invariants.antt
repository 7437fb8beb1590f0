use Rattle.std.proofs.Common.{◌≡◌, ◌+◌, [], map}
use Rattle.cq_theory.specs.Canonical.{below}
use Rattle.cq_instance.proofs.canonical.generators.names_from.Given as goal

abbrev pub invariant-loop-row : goal.invariant-loop-row
invariant-loop-row l = l.made.items ≡ map (λ row. record { generator = l.start + row; path = [] }) (below l.row)
