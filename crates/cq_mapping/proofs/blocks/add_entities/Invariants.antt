use Rattle.std.proofs.Common.{◌≡◌, drop, take}
use Rattle.cq_theory.specs.Declaring.{first_part_fault}
use Rattle.cq_mapping.specs.MappingParts.{entity_part_fault, entity_parts_fault, given_entities}
use Rattle.cq_mapping.proofs.blocks.add_entities.Given as goal

abbrev pub invariant-loop-names : goal.invariant-loop-names
invariant-loop-names l =
    (l.part ≡ l.names-index)
    × (l.table ≡ given_entities (take l.names-index l.parts))
    × (first_part_fault (λ part. part.0) (entity_part_fault l.source l.target) l.table l.part (drop l.names-index l.parts) ≡ entity_parts_fault l.source l.target l.parts)
