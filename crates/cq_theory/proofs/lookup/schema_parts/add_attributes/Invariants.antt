use Rattle.std.proofs.Common.{◌≡◌, ◌+◌, ◌++◌, drop, take, map}
use Rattle.cq_theory.specs.Typeside.{function_names}
use Rattle.cq_theory.specs.Schema.{edge_names}
use Rattle.cq_theory.specs.Declaring.{first_part_fault}
use Rattle.cq_theory.specs.SchemaParts.{attribute_fault, attributes_fault, made_attribute, part_names}
use Rattle.cq_theory.proofs.lookup.schema_parts.add_attributes.Given as goal

abbrev pub invariant-loop-attribute : goal.invariant-loop-attribute
invariant-loop-attribute l =
    (l.part ≡ l.first + l.attribute-index)
    × (l.table ≡ part_names (take l.attribute-index l.parts))
    × (l.attributes.items ≡ map (made_attribute l.schema.typeside l.schema.entities) (take l.attribute-index l.parts))
    × (first_part_fault (λ part. part.0) (attribute_fault l.schema.typeside l.schema.entities) ((function_names l.schema.typeside ++ edge_names l.schema.keys) ++ l.table) l.part (drop l.attribute-index l.parts) ≡ attributes_fault l.schema l.first l.parts)
