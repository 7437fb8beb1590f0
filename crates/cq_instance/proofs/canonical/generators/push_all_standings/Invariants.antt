use Rattle.std.proofs.Common.{◌≡◌, ◌++◌, map, slice_index}
use Rattle.std.specs.List.{flat_map}
use Rattle.cq_theory.specs.Canonical.{below}
use Rattle.cq_theory.specs.Tables.{AtRow}
use Rattle.cq_instance.specs.Standing.{meaning}
use Rattle.cq_instance.proofs.canonical.generators.push_all_standings.Given as goal

abbrev pub invariant-loop-entity : goal.invariant-loop-entity
invariant-loop-entity l = map meaning l.made.items ≡ map meaning l.initial.made.items ++ flat_map (λ entity. map AtRow (below (slice_index l.counts entity))) (below l.entity)
