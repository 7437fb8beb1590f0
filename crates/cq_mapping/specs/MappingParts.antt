-- The first fault of the parts of a mapping, and the mapping that they give.
use Rattle.std.specs.Prelude.{ℕ, Bool, true, false, not, List, [], ◌∷◌, ◌==◌, ◌&&◌, ◌||◌, if◌then◌else◌, map, length, slice_get}
use Rattle.std.specs.Prelude.{slice_index, Option, Some, None, is_none, nat_lt, option_map, option_and_then}
use Rattle.cq_base.specs.declared.name.Name.{Name}
use Rattle.cq_base.specs.Names.{number_of}
use Rattle.cq_theory.specs.declared.lookup.Symbol.{Symbol}
use Rattle.cq_theory.specs.declared.lookup.Symbol.TheVariants.{Key, Attribute}
use Rattle.cq_theory.specs.declared.refusal.TermRefusal.{TermRefusal}
use Rattle.cq_theory.specs.declared.refusal.TermRefusal.TheVariants as term_refusal
use Rattle.cq_theory.specs.declared.refusal.TheoryRefusal.{TheoryRefusal}
use Rattle.cq_theory.specs.declared.refusal.TheoryRefusal.TheVariants as theory_refusal
use Rattle.cq_theory.specs.declared.refusal.ArrowRefusal.{ArrowRefusal}
use Rattle.cq_theory.specs.declared.parts.MappingParts.{MappingParts}
use Rattle.cq_theory.specs.declared.parts.ArrowPart.{ArrowPart}
use Rattle.cq_theory.specs.declared.parts.ArrowImage.{ArrowImage}
use Rattle.cq_theory.specs.declared.parts.ArrowImage.TheVariants as image
use Rattle.cq_theory.specs.declared.presentation.Sort.{Sort}
use Rattle.cq_theory.specs.declared.presentation.Sort.TheVariants.{Plain, Entity}
use Rattle.cq_theory.specs.declared.schema.Edge.{Edge}
use Rattle.cq_theory.specs.SchemaData.{SchemaData as Schema}
use Rattle.cq_theory.specs.declared.constant.Con.TheVariants.{Named}
use Rattle.cq_theory.specs.declared.term.TypeTerm.{TypeTerm}
use Rattle.cq_theory.specs.declared.term.TypeTerm.TheVariants.{Const, Att}
use Rattle.cq_theory.specs.ArrowRefusals.{of_arrow, first_missing}
use Rattle.cq_theory.specs.Schema.{edge_names}
use Rattle.cq_theory.specs.Resolve as resolve
use Rattle.cq_theory.specs.Resolve.{or_else, sort_named, symbol_of, entity_in, has_unknown, has_wrong_count, has_reserved, raw_sort}
use Rattle.cq_theory.specs.Resolve.{same_sort, are_of_one_sort, in_part}
use Rattle.cq_theory.specs.Resolved.{resolved, type_term_in}
use Rattle.cq_theory.specs.Declaring.{first_part_fault, duplicate_or, number_or_zero}
use Rattle.cq_theory.specs.Paths.{is_among, has_unknown_name, path_keys}
use Rattle.cq_theory.specs.Routes.{is_at, path_attribute, path_ends, path_symbols}
use Rattle.cq_theory.specs.SchemaParts.{is_unknown_entity}
use Rattle.cq_mapping.specs.MappingData.{MappingData as Mapping}

module _ (S T : Schema) where
  -- a name of part n isn't declared, or a type stands in the place of an entity
  abbrev pub entity_ends_fault : ℕ → Name × Name → Option TheoryRefusal
  entity_ends_fault n part =
      if is_none (sort_named S part.0) || is_none (sort_named T part.1) then Some (theory_refusal.Unknown n)
      else (if is_none (entity_in (sort_named S part.0)) || is_none (entity_in (sort_named T part.1)) then Some (theory_refusal.WrongSort n)
      else None)

  -- the entity of part n has an image already, or the part breaks another rule
  abbrev pub entity_part_fault : List Name → ℕ → Name × Name → Option TheoryRefusal
  entity_part_fault earlier n part = duplicate_or earlier n part.0 (entity_ends_fault n part)

  abbrev pub entity_parts_fault : List (Name × Name) → Option TheoryRefusal
  entity_parts_fault parts = first_part_fault (λ part. part.0) entity_part_fault [] 0 parts

abbrev pub given_entities : List (Name × Name) → List Name
given_entities parts = map (λ part. part.0) parts

abbrev pub given_arrows : List ArrowPart → List Name
given_arrows arrows = map (λ arrow. arrow.name) arrows

-- the image of the entity of a name, in parts for these entities
abbrev pub made_entity : Schema → List Name → List (Name × Name) → Name → ℕ
made_entity T given parts name = number_or_zero (option_and_then (λ part. entity_in (sort_named T part.1))
    (option_and_then (slice_get parts) (number_of given name)))

abbrev pub made_entities : Schema → Schema → List (Name × Name) → List ℕ
made_entities S T parts = map (made_entity T (given_entities parts) parts) S.entities

-- the variable of an image
abbrev pub variables_of : ArrowImage → List Name
variables_of (image.Key names) = []
variables_of (image.Path names) = []
variables_of (image.Lambda variable entity raw) = variable ∷ []

-- the path begins at the entity and ends at the sort
abbrev pub are_ends : Option (ℕ × Sort) → ℕ → Sort → Bool
are_ends None start end = false
are_ends (Some ends) start end = (ends.0 == start) && same_sort ends.1 end

-- Images of foreign keys and attributes in the target.
module _ (T : Schema) where
  -- a path that ends in an attribute, as a term over one variable
  abbrev pub path_term : List Name → TypeTerm
  path_term names = Att (number_or_zero (path_attribute T names)) (record { generator = 0; path = path_keys T names })

  abbrev pub has_wrong_count_image : ArrowImage → Bool
  has_wrong_count_image (image.Key names) = false
  has_wrong_count_image (image.Path names) = false
  has_wrong_count_image (image.Lambda variable entity raw) = has_wrong_count T raw

  -- under a typeside with an open type, a text of the image is one that no constant can have
  abbrev pub has_reserved_image : ArrowImage → Bool
  has_reserved_image (image.Key names) = false
  has_reserved_image (image.Path names) = false
  has_reserved_image (image.Lambda variable entity raw) = has_reserved T raw

  abbrev pub is_too_large_image : ArrowImage → Bool
  is_too_large_image (image.Key names) = nat_lt 1024 (path_symbols T names)
  is_too_large_image (image.Path names) = nat_lt 1024 (path_symbols T names)
  is_too_large_image (image.Lambda variable entity raw) = resolve.is_too_large raw

  -- the stated entity of a variable, if there is one, is this
  abbrev pub is_stated : Option Name → ℕ → Bool
  is_stated None entity = true
  is_stated (Some name) entity = is_at entity (entity_in (sort_named T name))

  -- the path goes from an entity to an entity
  abbrev pub is_image_of_key : ArrowImage → ℕ → ℕ → Bool
  is_image_of_key (image.Key names) start end = are_ends (path_ends T names) start (Entity end)
  is_image_of_key _ start end = false

  abbrev pub made_path : ArrowImage → List ℕ
  made_path (image.Key names) = path_keys T names
  made_path _ = []

  -- the same, where these variables stand in the image
  module _ (variables : List Name) where
    -- a name of the image isn't declared
    abbrev pub has_unknown_image : ArrowImage → Bool
    has_unknown_image (image.Key names) = has_unknown_name T (is_among (edge_names T.attributes)) names
    has_unknown_image (image.Path names) = has_unknown_name T (is_among (edge_names T.attributes)) names
    has_unknown_image (image.Lambda variable entity raw) = is_unknown_entity T entity || has_unknown T variables raw

    -- the path or term goes from an entity to a type
    abbrev pub is_image_of_attribute : ArrowImage → ℕ → ℕ → Bool
    is_image_of_attribute (image.Path names) start type = are_ends (path_ends T names) start (Plain type)
    is_image_of_attribute (image.Lambda variable entity raw) start type =
        is_stated entity start && are_of_one_sort (raw_sort T variables (Entity start ∷ []) raw) (Some (Plain type))
    is_image_of_attribute _ start type = false

    abbrev pub made_term : ℕ → ArrowImage → TypeTerm
    made_term start (image.Path names) = path_term names
    made_term start (image.Lambda variable entity raw) = type_term_in (resolved T variables (Entity start ∷ []) raw)
    made_term start _ = Const (Named 0)

-- the part with the image of a name, in parts for these names
abbrev pub arrow_named : List Name → List ArrowPart → Name → Option ArrowPart
arrow_named given arrows name = option_and_then (slice_get arrows) (number_of given name)

abbrev pub path_in : Schema → Option ArrowPart → List ℕ
path_in T None = []
path_in T (Some part) = made_path T part.image

abbrev pub term_in : Schema → ℕ → Option ArrowPart → TypeTerm
term_in T start None = Const (Named 0)
term_in T start (Some part) = made_term T (variables_of part.image) start part.image

abbrev pub made_key : Schema → List Name → List ArrowPart → Edge → List ℕ
made_key T given arrows edge = path_in T (arrow_named given arrows edge.name)

abbrev pub made_attribute : Schema → List ℕ → List Name → List ArrowPart → Edge → TypeTerm
made_attribute T entities given arrows edge = term_in T (slice_index entities edge.from) (arrow_named given arrows edge.name)

-- Where the entities of the source have these images: the image can stand for the foreign key or the attribute, which begins at the block's
-- entity.
module _ (T : Schema) (entities : List ℕ) where
  abbrev pub is_right_key : Option Edge → Option ℕ → ArrowImage → Bool
  is_right_key None block given = false
  is_right_key (Some edge) block given = is_at edge.from block
      && is_image_of_key T given (slice_index entities edge.from) (slice_index entities edge.to)

  abbrev pub is_right_attribute : List Name → Option Edge → Option ℕ → ArrowImage → Bool
  is_right_attribute variables None block given = false
  is_right_attribute variables (Some edge) block given = is_at edge.from block
      && is_image_of_attribute T variables given (slice_index entities edge.from) edge.to

module _ (S T : Schema) (entities : List ℕ) where
  abbrev pub is_right : List Name → Option Symbol → Option ℕ → ArrowImage → Bool
  is_right variables (Some (Key k)) block given = is_right_key T entities (slice_get S.keys k) block given
  is_right variables (Some (Attribute a)) block given = is_right_attribute T entities variables (slice_get S.attributes a) block given
  is_right variables _ block given = false

  -- the least rule that an image of a foreign key or an attribute breaks, with these variables
  abbrev pub arrow_fault_over : List Name → ArrowPart → Option TermRefusal
  arrow_fault_over variables part =
      if is_none (sort_named S part.block) || is_none (symbol_of S part.name) || has_unknown_image T variables part.image
      then Some term_refusal.Unknown
      else (if has_wrong_count_image T part.image then Some term_refusal.WrongCount
      else (if not (is_right variables (symbol_of S part.name) (entity_in (sort_named S part.block)) part.image)
      then Some term_refusal.WrongSort
      else (if has_reserved_image T part.image then Some term_refusal.Reserved
      else (if is_too_large_image T part.image then Some term_refusal.TooLarge
      else None))))

  unfoldable pub arrow_fault : ArrowPart → Option TermRefusal
  arrow_fault part = arrow_fault_over (variables_of part.image) part

  -- part n: the foreign key or attribute has an image already, or the image breaks another rule
  abbrev pub arrow_part_fault : List Name → ℕ → ArrowPart → Option TheoryRefusal
  arrow_part_fault earlier n part = duplicate_or earlier n part.name (option_map (in_part n) (arrow_fault part))

  abbrev pub arrows_fault : ℕ → List ArrowPart → Option TheoryRefusal
  arrows_fault n arrows = first_part_fault (λ part. part.name) arrow_part_fault [] n arrows

  -- the faults after the entities have images: those of the arrows, the first of which is part n, and then what has no image
  abbrev pub arrows_and_rest_fault : ℕ → List ArrowPart → Option ArrowRefusal
  arrows_and_rest_fault n arrows =
      or_else (option_map of_arrow (arrows_fault n arrows))
      (or_else (first_missing (given_arrows arrows) (edge_names S.keys))
      (first_missing (given_arrows arrows) (edge_names S.attributes)))

  abbrev pub made_over : List ArrowPart → Mapping
  made_over arrows = record {
    source = S;
    target = T;
    entities = entities;
    keys = map (made_key T (given_arrows arrows) arrows) S.keys;
    attributes = map (made_attribute T entities (given_arrows arrows) arrows) S.attributes;
  }

-- The first fault: the parts of entities, then an entity without an image, then the other parts, and then a foreign key or an attribute
-- without an image.
abbrev pub mapping_fault : Schema → Schema → MappingParts → Option ArrowRefusal
mapping_fault S T parts =
    or_else (option_map of_arrow (entity_parts_fault S T parts.entities))
    (or_else (first_missing (given_entities parts.entities) S.entities)
    (arrows_and_rest_fault S T (made_entities S T parts.entities) (length parts.entities) parts.arrows))

-- the mapping that the parts give, where they break no rule
abbrev pub mapping_made : Schema → Schema → MappingParts → Mapping
mapping_made S T parts = made_over S T (made_entities S T parts.entities) parts.arrows
