use Rattle.std.proofs.Common.{◌≡◌}
use Rattle.std.specs.List.{flat_map}
use Rattle.cq_theory.specs.Canonical.{below}
use Rattle.cq_theory.specs.Listed.{observation_nodes}
use Rattle.cq_instance.specs.Learning.{learned_from}
use Rattle.cq_instance.proofs.null_terms.sides.learn_observations.Given as goal

abbrev pub invariant-loop-entity : goal.invariant-loop-entity
invariant-loop-entity l = l.known.items ≡ learned_from l.instance l.initial.known.items (flat_map (observation_nodes l.instance.schema l.instance.presentation l.instance.names) (below l.entity))
