-- The joined schema, and the inclusions of the parts.
use Rattle.std.specs.Prelude.{ℕ, List, [], ◌∷◌, ◌++◌, ◌+◌, length, map, slice_index_or}
use Rattle.std.specs.List.{flat_map, range_with_len}
use Rattle.cq_base.specs.declared.name.Name.{Name}
use Rattle.cq_theory.specs.declared.schema.Edge.{Edge}
use Rattle.cq_theory.specs.declared.schema.PathEq.{PathEq}
use Rattle.cq_theory.specs.declared.schema.ObsEq.{ObsEq}
use Rattle.cq_theory.specs.SchemaData.{SchemaData as Schema}
use Rattle.cq_theory.specs.TypesideData.{TypesideData as Typeside}
use Rattle.cq_theory.specs.SchemaParts.{started, completed}
use Rattle.cq_mapping.specs.MappingData.{MappingData as Mapping}
use Rattle.cq_mapping.specs.Mapping.{attribute_itself}
use Rattle.cq_mapping.specs.Images.{entity_image, path_image, type_image}
use Rattle.cq_theory.specs.declared.parts.ColimitParts.{ColimitParts}
use Rattle.cq_colimit.specs.PlacedData.{PlacedData as Placed}
use Rattle.cq_colimit.specs.Placing.{Part, placed}
use Rattle.cq_colimit.specs.Ends.{links_of}
use Rattle.cq_colimit.specs.Classes.{class_of}
use Rattle.cq_colimit.specs.Clashes.{joined_name, given_entities}

-- the image of an equation
abbrev pub path_eq_image : Mapping → PathEq → PathEq
path_eq_image F e = record { entity = entity_image F e.entity; left = path_image F e.left; right = path_image F e.right }

abbrev pub obs_eq_image : Mapping → ObsEq → ObsEq
obs_eq_image F e = record { entity = entity_image F e.entity; left = type_image F e.left; right = type_image F e.right }

abbrev pub path_eq_images : Mapping → List PathEq
path_eq_images F = map (path_eq_image F) F.source.path_eqs

abbrev pub obs_eq_images : Mapping → List ObsEq
obs_eq_images F = map (obs_eq_image F) F.source.obs_eqs

module _ (links : List (ℕ × ℕ)) where
  -- the joined entities
  abbrev pub entities_of : List Placed → List Name
  entities_of parts = map (λ given. given.0) (given_entities links parts)

  -- the name of the class of an entity of a part
  abbrev pub class_name : List Name → Placed → ℕ → Name
  class_name entities part entity = slice_index_or entities (class_of links (part.start.entity + entity)) []

  -- the joined foreign keys and attributes, as parts of a schema with these entities
  abbrev pub key_part : List Name → Placed → Edge → Name × Name × Name
  key_part entities part edge =
      (joined_name part.name edge.name, class_name entities part edge.from, class_name entities part edge.to)

  abbrev pub attribute_part : List Name → Placed → Edge → Name × Name × Name
  attribute_part entities part edge =
      (joined_name part.name edge.name, class_name entities part edge.from, slice_index_or part.schema.typeside.types edge.to [])

  abbrev pub keys_of : List Name → List Placed → List (Name × Name × Name)
  keys_of entities parts = flat_map (λ part. map (key_part entities part) part.schema.keys) parts

  abbrev pub attributes_of : List Name → List Placed → List (Name × Name × Name)
  attributes_of entities parts = flat_map (λ part. map (attribute_part entities part) part.schema.attributes) parts

  -- the joined entities and foreign keys
  unfoldable pub keyed : Typeside → List Placed → Schema
  keyed T parts = started T (entities_of parts) (keys_of (entities_of parts) parts)

  -- the schema of the joined entities, foreign keys and attributes, with some equations that are looked up in it
  unfoldable pub framed : Typeside → List Placed → ColimitParts → Schema
  framed T parts joins = completed (keyed T parts) joins.path_eqs (attributes_of (entities_of parts) parts) joins.obs_eqs

  -- each symbol of the part goes to its joined symbol
  abbrev pub inclusion : Schema → Placed → Mapping
  inclusion J part = record {
    source = part.schema;
    target = J;
    entities = map (class_of links) (range_with_len part.start.entity (length part.schema.entities));
    keys = map (λ k. k ∷ []) (range_with_len part.start.key (length part.schema.keys));
    attributes = map attribute_itself (range_with_len part.start.attribute (length part.schema.attributes));
  }

  -- the schema with the images of the parts' equations, in order, before its own
  abbrev pub with_images : Schema → List Placed → Schema
  with_images F parts = record {
    typeside = F.typeside;
    entities = F.entities;
    keys = F.keys;
    attributes = F.attributes;
    path_eqs = flat_map (λ part. path_eq_images (inclusion F part)) parts ++ F.path_eqs;
    obs_eqs = flat_map (λ part. obs_eq_images (inclusion F part)) parts ++ F.obs_eqs;
  }

-- the numbers of the pairs of entities that are listed as one
abbrev pub links_in : List Part → ColimitParts → List (ℕ × ℕ)
links_in parts joins = links_of (placed parts) joins.pairs

-- the joined symbols, the equations of the parts, in order, and then the added ones
unfoldable pub joined : Typeside → List Part → ColimitParts → Schema
joined T parts joins = with_images (links_in parts joins) (framed (links_in parts joins) T (placed parts) joins) (placed parts)

unfoldable pub inclusions : Typeside → List Part → ColimitParts → List Mapping
inclusions T parts joins = map (inclusion (links_in parts joins) (joined T parts joins)) (placed parts)
