-- Schemas of the joined symbols.
use Rattle.std.specs.Prelude.{ℕ, List, [], ◌++◌, Option, None, ◌≡◌, ◌+◌, ◌<◌, ◌≤◌, ◌^◌, map, length, All, option_map}
use Rattle.std.specs.List.{flat_map}
use Rattle.cq_base.specs.declared.name.Name.{Name}
use Rattle.cq_theory.specs.declared.schema.PathEq.{PathEq}
use Rattle.cq_theory.specs.declared.schema.ObsEq.{ObsEq}
use Rattle.cq_theory.specs.Resolve.{or_else}
use Rattle.cq_theory.specs.SchemaData.{SchemaData as Schema}
use Rattle.cq_theory.specs.TypesideData.{TypesideData as Typeside}
use Rattle.cq_theory.specs.Schema.{IsSchema}
use Rattle.cq_theory.specs.SchemaParts.{made_key, made_attribute, entities_fault, keys_fault, attributes_fault, completed}
use Rattle.cq_theory.specs.Canonical.{below}
use Rattle.cq_mapping.specs.Mapping.{IsMapping}
use Rattle.cq_colimit.specs.PlacedData.{PlacedData as Placed}
use Rattle.cq_colimit.specs.Placing.{Part, placed, entities_in}
use Rattle.cq_colimit.specs.declared.refusal.ColimitRefusal.{ColimitRefusal}
use Rattle.cq_theory.specs.declared.parts.ColimitParts.{ColimitParts}
use Rattle.cq_colimit.specs.Classes.{first_of, class_of}
use Rattle.cq_colimit.specs.Clashes.{given_entities, given_arrows}
use Rattle.cq_colimit.specs.Faults.{of_colimit, sizes_of, given_fault, added_fault}
use Rattle.cq_colimit.specs.Joined.{entities_of, keys_of, attributes_of, keyed, inclusion, path_eq_images, obs_eq_images}

-- the numbers of the part's foreign keys and attributes are of 32 bits
abbrev pub HasShortNumbers : Placed → Type 0
HasShortNumbers part =
    (part.start.key + length part.schema.keys < 2 ^ 32) × (part.start.attribute + length part.schema.attributes < 2 ^ 32)

-- the given parts over one typeside, in their places
pub record ArePlaced (T : Typeside) (given : List Part) (parts : List Placed) : Type 0 where
  pub places : parts ≡ placed given
  pub small : sizes_of (map (λ part. part.1) given) ≤ 1000000
  pub over : All (λ part. part.1.typeside ≡ T) given

module _ (links : List (ℕ × ℕ)) where
  -- a schema of the joined symbols of the parts, with any equations
  pub record IsFrame (parts : List Placed) (J : Schema) : Type 0 where
    pub schema : IsSchema J
    pub entities : J.entities ≡ entities_of links parts
    pub keys : J.keys ≡ map (made_key J.typeside J.entities) (keys_of links J.entities parts)
    pub attributes : J.attributes ≡ map (made_attribute J.typeside J.entities) (attributes_of links J.entities parts)

  -- the part, which is well sorted, goes into the schema by a mapping
  abbrev pub GoesInto : Schema → Placed → Type 0
  GoesInto J part = IsSchema part.schema → IsMapping (inclusion links J part)

  -- the joined symbols without equations
  unfoldable pub bare : Typeside → List Placed → Schema
  bare T parts = completed (keyed links T parts) [] (attributes_of links (entities_of links parts) parts) []

  -- no joined symbol breaks a rule of schemas
  pub record HasSymbols (T : Typeside) (parts : List Placed) : Type 0 where
    pub entities : entities_fault T (entities_of links parts) ≡ None
    pub keys : keys_fault T (entities_of links parts) (length (entities_of links parts)) (keys_of links (entities_of links parts) parts)
        ≡ None
    pub attributes : (n : ℕ) → attributes_fault (keyed links T parts) n (attributes_of links (entities_of links parts) parts) ≡ None

  -- the least fault of the joined names and of the added equations, the first of which is part n
  abbrev pub given_or_added_fault : Typeside → List Placed → ℕ → ColimitParts → Option ColimitRefusal
  given_or_added_fault T parts n joins =
      or_else (given_fault T (given_entities links parts) (given_arrows parts))
      (option_map of_colimit (added_fault (keyed links T parts) (attributes_of links (entities_of links parts) parts) n joins))

  -- the schema has the image of each equation of the parts
  pub record HasImages (parts : List Placed) (J : Schema) : Type 0 where
    pub own_path_eqs : List PathEq
    pub own_obs_eqs : List ObsEq
    pub path_eqs : J.path_eqs ≡ flat_map (λ part. path_eq_images (inclusion links J part)) parts ++ own_path_eqs
    pub obs_eqs : J.obs_eqs ≡ flat_map (λ part. obs_eq_images (inclusion links J part)) parts ++ own_obs_eqs

  -- parts in their places, with the first members and the numbers of their entities' classes
  pub record AreJoined (T : Typeside) (given : List Part) (parts : List Placed) (firsts numbers : List ℕ) : Type 0 where
    pub places : ArePlaced T given parts
    pub firsts_are : firsts ≡ map (first_of links) (below (entities_in given))
    pub classes : numbers ≡ map (class_of links) (below (entities_in given))

  -- the same, with the names of the joined entities
  pub record AreSymbols (T : Typeside) (given : List Part) (parts : List Placed) (numbers : List ℕ) (names : List Name) : Type 0 where
    pub places : ArePlaced T given parts
    pub classes : numbers ≡ map (class_of links) (below (entities_in given))
    pub names_are : names ≡ entities_of links parts
