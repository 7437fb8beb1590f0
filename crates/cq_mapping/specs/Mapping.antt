-- Well-sorted mappings.
use Rattle.std.specs.Prelude.{ℕ, List, [], ◌∷◌, Some, ◌≡◌, ◌<◌, ◌≤◌, map, slice_get, length, All}
use Rattle.cq_theory.specs.declared.schema.Edge.{Edge}
use Rattle.cq_theory.specs.SchemaData.{SchemaData as Schema}
use Rattle.cq_theory.specs.declared.term.TypeTerm.{TypeTerm}
use Rattle.cq_theory.specs.declared.term.TypeTerm.TheVariants.{Att}
use Rattle.cq_theory.specs.TypeTerm.{symbols_of}
use Rattle.cq_theory.specs.Sorts.{target_of, type_of}
use Rattle.cq_theory.specs.Schema.{IsSchema, one_of}
use Rattle.cq_theory.specs.Canonical.{below}
use Rattle.cq_mapping.specs.MappingData.{MappingData as Mapping}
use Rattle.cq_mapping.specs.Images.{entity_image, key_image, attribute_image}

-- a path of the target from the image of the foreign key's source to that of its target, with at most 1,024 symbols
pub record IsKeyImage (F : Mapping) (edge : Edge) (path : List ℕ) : Type 0 where
  pub leads : target_of F.target.keys path (entity_image F edge.from) ≡ Some (entity_image F edge.to)
  pub fits : length path < 1024

-- a term of the attribute's type over one variable of the image of its source, with at most 1,024 symbols
pub record IsAttributeImage (F : Mapping) (edge : Edge) (t : TypeTerm) : Type 0 where
  pub typed : type_of F.target (one_of (entity_image F edge.from)) t ≡ Some edge.to
  pub fits : symbols_of t ≤ 1024

-- Two schemas over one typeside, and for each entity, foreign key and attribute of the source an image of the right ends and type.
pub record IsMapping (F : Mapping) : Type 0 where
  pub source : IsSchema F.source
  pub target : IsSchema F.target
  pub typeside : F.source.typeside ≡ F.target.typeside
  pub entities : length F.entities ≡ length F.source.entities
  pub keys : length F.keys ≡ length F.source.keys
  pub attributes : length F.attributes ≡ length F.source.attributes
  pub entity_images : All (λ e. e < length F.target.entities) F.entities
  pub key_images : (k : ℕ) (edge : Edge) → slice_get F.source.keys k ≡ Some edge → IsKeyImage F edge (key_image F k)
  pub attribute_images : (a : ℕ) (edge : Edge) → slice_get F.source.attributes a ≡ Some edge → IsAttributeImage F edge (attribute_image F a)

-- an attribute of the variable
abbrev pub attribute_itself : ℕ → TypeTerm
attribute_itself a = Att a (record { generator = 0; path = [] })

-- each entity, foreign key and attribute sent to itself
abbrev pub identity_of : Schema → Mapping
identity_of S = record {
  source = S;
  target = S;
  entities = below (length S.entities);
  keys = map (λ k. k ∷ []) (below (length S.keys));
  attributes = map attribute_itself (below (length S.attributes));
}
