-- The parts of a colimit, each with what stands before it.
use Rattle.std.specs.Prelude.{ℕ, List, [], ◌∷◌, ◌+◌, length, map, sum}
use Rattle.cq_base.specs.declared.name.Name.{Name}
use Rattle.cq_theory.specs.SchemaData.{SchemaData as Schema}
use Rattle.cq_colimit.specs.PlacedData.{PlacedData as Placed}
use Rattle.cq_colimit.specs.declared.placed.Start.{Start}

-- a schema under a name
abbrev pub Part : Type 0
Part = Name × Schema

abbrev pub part_names : List Part → List Name
part_names parts = map (λ part. part.0) parts

-- what stands before the part that follows one with this schema
abbrev pub past : Start → Schema → Start
past start S = record {
  part = start.part + 1;
  entity = start.entity + length S.entities;
  key = start.key + length S.keys;
  attribute = start.attribute + length S.attributes;
}

abbrev pub placed_from : Start → List Part → List Placed
placed_from start [] = []
placed_from start (part ∷ parts) = record { name = part.0; schema = part.1; start = start } ∷ placed_from (past start part.1) parts

-- the parts, each with the numbers of the parts, entities, foreign keys and attributes before it
abbrev pub placed : List Part → List Placed
placed parts = placed_from (record { part = 0; entity = 0; key = 0; attribute = 0 }) parts

-- how many entities the parts have
abbrev pub entities_in : List Part → ℕ
entities_in parts = sum (map (λ part. length part.1.entities) parts)
