use Rattle.std.proofs.Common.{◌≡◌, ◌++◌, drop, take}
use Rattle.cq_theory.specs.Declaring.{first_part_fault}
use Rattle.cq_theory.specs.SchemaParts.{entity_fault, entities_fault}
use Rattle.cq_theory.proofs.lookup.schema_parts.add_entities.Given as goal

abbrev pub invariant-loop-name : goal.invariant-loop-name
invariant-loop-name l =
    (l.part ≡ l.name-index)
    × (l.table ≡ take l.name-index l.parts)
    × (first_part_fault (λ name. name) entity_fault (l.typeside.types ++ l.table) l.part (drop l.name-index l.parts) ≡ entities_fault l.typeside l.parts)
