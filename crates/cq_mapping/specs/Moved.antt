-- The tables that a mapping pulls back from a model of its target.
use Rattle.std.specs.Prelude.{ℕ, List, [], ◌∷◌, map}
use Rattle.std.specs.List.{enumerate_from}
use Rattle.cq_theory.specs.declared.schema.Edge.{Edge}
use Rattle.cq_theory.specs.declared.value.Value.{Value}
use Rattle.cq_theory.specs.Canonical.{below}
use Rattle.cq_theory.specs.Tables.{Tables, AtRow, count_of, row_from, value_of}
use Rattle.cq_mapping.specs.MappingData.{MappingData as Mapping}
use Rattle.cq_mapping.specs.Images.{entity_image, key_image, attribute_image}

module _ (F : Mapping) (M : Tables) where
  -- at each row of the image of a foreign key's source, the row at the end of the key's path
  abbrev pub key_column : ℕ × Edge → List ℕ
  key_column k = map (λ row. row_from M row (key_image F k.0)) (below (count_of M (entity_image F k.1.from)))

  -- at each row of the image of an attribute's source, the value of the attribute's term
  abbrev pub cell_column : ℕ × Edge → List Value
  cell_column a = map (λ row. value_of M (AtRow row ∷ []) (attribute_image F a.0)) (below (count_of M (entity_image F a.1.from)))

  -- The rows of an entity are those of its image, with their numbers. Nulls and entries stay.
  abbrev pub delta_tables : Tables
  delta_tables = record {
    sheet = record {
      counts = map (count_of M) F.entities;
      keys = map key_column (enumerate_from 0 F.source.keys);
      cells = map cell_column (enumerate_from 0 F.source.attributes);
    };
    algebra = M.algebra;
  }
