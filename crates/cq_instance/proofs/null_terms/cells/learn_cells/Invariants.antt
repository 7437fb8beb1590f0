use Rattle.std.proofs.Common.{◌≡◌}
use Rattle.std.specs.List.{flat_map}
use Rattle.cq_theory.specs.Canonical.{below}
use Rattle.cq_theory.specs.Listed.{cell_nodes}
use Rattle.cq_instance.specs.Learning.{learned_from}
use Rattle.cq_instance.proofs.null_terms.cells.learn_cells.Given as goal

abbrev pub invariant-loop-entity : goal.invariant-loop-entity
invariant-loop-entity l = l.known.items ≡ learned_from l.instance l.initial.known.items (flat_map (cell_nodes l.instance.schema l.instance.presentation l.instance.names) (below l.entity))
