use Rattle.std.proofs.Common.{◌≡◌, map}
use Rattle.cq_theory.specs.Canonical.{below}
use Rattle.cq_mapping.specs.Images.{entity_image}
use Rattle.cq_compose.specs.MappingQuery.{mapping_block}
use Rattle.cq_compose.proofs.of_mapping.build_blocks.Given as goal

abbrev pub invariant-loop-entity : goal.invariant-loop-entity
invariant-loop-entity l = l.made.items ≡ map (λ e. mapping_block l.mapping (e, entity_image l.mapping e)) (below l.entity)
