use Rattle.std.proofs.Common.{◌≡◌, ◌++◌}
use Rattle.std.specs.List.{flat_map}
use Rattle.cq_theory.specs.Canonical.{below}
use Rattle.cq_instance.specs.Numbers.{entity_made}
use Rattle.cq_instance.proofs.canonical.equations.push_rows.Given as goal

abbrev pub invariant-loop-entity : goal.invariant-loop-entity
invariant-loop-entity l = l.made.items ≡ l.initial.made.items ++ flat_map (entity_made l.sheet l.numbers) (below l.entity)
