-- The query of a mapping, which answers what the mapping pulls back.
use Rattle.std.specs.Prelude.{ℕ, List, [], ◌∷◌, map, codes}
use Rattle.std.specs.List.{enumerate_from}
use Rattle.cq_theory.specs.declared.term.EntTerm.{EntTerm}
use Rattle.cq_theory.specs.declared.schema.Edge.{Edge}
use Rattle.cq_theory.specs.Canonical.{edges_from}
use Rattle.cq_blocks.specs.declared.block.Block.{Block}
use Rattle.cq_query.specs.QueryData.{QueryData as Query}
use Rattle.cq_mapping.specs.MappingData.{MappingData as Mapping}
use Rattle.cq_mapping.specs.Images.{key_image, attribute_image}

module _ (F : Mapping) where
  -- a path from the one variable
  abbrev pub from_variable : List ℕ → EntTerm
  from_variable path = record { generator = 0; path = path }

  -- One variable x1 of the entity's image and no where equations; for each attribute its image, and for each key its
  -- path.
  abbrev pub mapping_block : ℕ × ℕ → Block
  mapping_block e = record {
    vars = (codes "x1", e.1) ∷ [];
    tests = [];
    attributes = map (λ a. attribute_image F a.0) (edges_from e.0 F.source.attributes);
    keys = map (λ k. from_variable (key_image F k.0) ∷ []) (edges_from e.0 F.source.keys);
  }

  -- from the mapping's target to its source
  abbrev pub mapping_query : Query
  mapping_query = record {
    source = F.target;
    target = F.source;
    blocks = map mapping_block
        (enumerate_from 0 F.entities);
  }
