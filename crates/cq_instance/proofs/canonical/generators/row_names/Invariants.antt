use Rattle.std.proofs.Common.{◌≡◌, map}
use Rattle.cq_theory.specs.Canonical.{below}
use Rattle.cq_instance.specs.Numbers.{start_of, names}
use Rattle.cq_instance.proofs.canonical.generators.row_names.Given as goal

abbrev pub invariant-loop-entity : goal.invariant-loop-entity
invariant-loop-entity l = (l.made.items ≡ map (names l.counts) (below l.entity)) × (l.start ≡ start_of l.counts l.entity)
