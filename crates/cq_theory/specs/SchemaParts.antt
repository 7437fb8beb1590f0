-- The first fault of the parts of a schema, and the schema that they give.
use Rattle.std.specs.Prelude.{ℕ, Bool, false, not, List, [], ◌∷◌, ◌++◌, ◌+◌, ◌==◌, ◌||◌, if◌then◌else◌, map, length, Option, Some, None}
use Rattle.std.specs.Prelude.{is_none, slice_get, option_map}
use Rattle.cq_base.specs.declared.name.Name.{Name}
use Rattle.cq_base.specs.Names.{same_name}
use Rattle.cq_base.specs.declared.raw.Raw.{Raw}
use Rattle.cq_base.specs.declared.raw.Raw.TheOpen.{Raw-F, Word, Text, App}
use Rattle.cq_base.specs.declared.raw.Raw.TheFolds.{fold-Raw, para-Raw}
use Rattle.cq_theory.specs.declared.lookup.Symbol.{Symbol}
use Rattle.cq_theory.specs.declared.lookup.Symbol.TheVariants.{Key, Attribute}
use Rattle.cq_theory.specs.declared.refusal.TermRefusal.{TermRefusal}
use Rattle.cq_theory.specs.declared.refusal.TermRefusal.TheVariants as term_refusal
use Rattle.cq_theory.specs.declared.refusal.TheoryRefusal.{TheoryRefusal}
use Rattle.cq_theory.specs.declared.refusal.TheoryRefusal.TheVariants.{Unknown, WrongSort}
use Rattle.cq_theory.specs.declared.parts.ObsPart.{ObsPart}
use Rattle.cq_theory.specs.declared.parts.SchemaParts.{SchemaParts}
use Rattle.cq_theory.specs.declared.presentation.Sort.{Sort}
use Rattle.cq_theory.specs.declared.presentation.Sort.TheVariants.{Plain, Entity}
use Rattle.cq_theory.specs.declared.schema.Edge.{Edge}
use Rattle.cq_theory.specs.declared.schema.ObsEq.{ObsEq}
use Rattle.cq_theory.specs.declared.term.TypeTerm.{TypeTerm}
use Rattle.cq_theory.specs.SchemaData.{SchemaData as Schema}
use Rattle.cq_theory.specs.TypesideData.{TypesideData as Typeside}
use Rattle.cq_theory.specs.Typeside.{function_names}
use Rattle.cq_theory.specs.Schema.{edge_names}
use Rattle.cq_theory.specs.Resolve.{or_else, symbol_of, sort_in, sort_named, entity_in, type_in, has_unknown, has_wrong_count, has_reserved}
use Rattle.cq_theory.specs.Resolve.{raw_sort, is_too_large, first_fault}
use Rattle.cq_theory.specs.Resolved.{resolved, type_term_in}
use Rattle.cq_theory.specs.Declaring.{first_part_fault, duplicate_or, number_or_zero}
use Rattle.cq_theory.specs.Paths.{is_among, path_eq_fault, made_path_eq}

-- an entity that stands already among types and entities
abbrev pub entity_fault : List Name → ℕ → Name → Option TheoryRefusal
entity_fault earlier n name = duplicate_or earlier n name None

module _ (T : Typeside) (entities : List Name) where
  abbrev pub entity_named : Name → Option ℕ
  entity_named name = entity_in (sort_in T entities name)

  abbrev pub type_named : Name → Option ℕ
  type_named name = type_in (sort_in T entities name)

  -- a name of the two isn't declared
  abbrev pub has_unknown_end : Name → Name → Bool
  has_unknown_end from to = is_none (sort_in T entities from) || is_none (sort_in T entities to)

  -- a foreign key goes from an entity to an entity
  abbrev pub key_ends_fault : ℕ → Name → Name → Option TheoryRefusal
  key_ends_fault n from to =
      if has_unknown_end from to then Some (Unknown n)
      else (if is_none (entity_named from) || is_none (entity_named to) then Some (WrongSort n)
      else None)

  -- an attribute goes from an entity to a type
  abbrev pub attribute_ends_fault : ℕ → Name → Name → Option TheoryRefusal
  attribute_ends_fault n from to =
      if has_unknown_end from to then Some (Unknown n)
      else (if is_none (entity_named from) || is_none (type_named to) then Some (WrongSort n)
      else None)

  abbrev pub key_fault : List Name → ℕ → Name × Name × Name → Option TheoryRefusal
  key_fault earlier n part = duplicate_or earlier n part.0 (key_ends_fault n part.1 part.2)

  abbrev pub attribute_fault : List Name → ℕ → Name × Name × Name → Option TheoryRefusal
  attribute_fault earlier n part = duplicate_or earlier n part.0 (attribute_ends_fault n part.1 part.2)

  abbrev pub made_key : Name × Name × Name → Edge
  made_key part = record { name = part.0; from = number_or_zero (entity_named part.1); to = number_or_zero (entity_named part.2) }

  abbrev pub made_attribute : Name × Name × Name → Edge
  made_attribute part = record { name = part.0; from = number_or_zero (entity_named part.1); to = number_or_zero (type_named part.2) }

-- an edge's part begins with its name
abbrev pub part_names : List (Name × Name × Name) → List Name
part_names parts = map (λ part. part.0) parts

abbrev pub first_found : List (Option ℕ) → Option ℕ
first_found [] = None
first_found (found ∷ founds) = or_else found (first_found founds)

abbrev pub are_of_one_type : Option Sort → Option Sort → Bool
are_of_one_type (Some (Plain t)) (Some (Plain u)) = t == u
are_of_one_type _ _ = false

module _ (variable : Name) where
  abbrev pub is_variable_step : Raw-F Bool → Bool
  is_variable_step (Word name) = same_name name variable
  is_variable_step (Text name) = false
  is_variable_step (App name args) = false

  abbrev pub is_variable : Raw → Bool
  is_variable = fold-Raw Bool is_variable_step

  -- the one argument is the variable
  abbrev pub is_variable_alone : List Raw → Bool
  is_variable_alone (arg ∷ []) = is_variable arg
  is_variable_alone _ = false

module _ (S : Schema) where
  -- the entity from which a foreign key or an attribute goes
  abbrev pub source_of : Option Symbol → Option ℕ
  source_of (Some (Key k)) = option_map (λ edge. edge.from) (slice_get S.keys k)
  source_of (Some (Attribute a)) = option_map (λ edge. edge.from) (slice_get S.attributes a)
  source_of _ = None

  module _ (variable : Name) where
    abbrev pub source_at : Name → List Raw → Option ℕ
    source_at name args = if is_variable_alone variable args then source_of (symbol_of S name) else None

    -- the source of the first foreign key or attribute that is applied to the variable itself
    abbrev pub applied_source_step : Raw-F (Raw × Option ℕ) → Option ℕ
    applied_source_step (Word name) = None
    applied_source_step (Text name) = None
    applied_source_step (App name args) = or_else (source_at name (map (λ arg. arg.0) args)) (first_found (map (λ arg. arg.1) args))

    abbrev pub applied_source : Raw → Option ℕ
    applied_source = para-Raw (Option ℕ) applied_source_step

  -- the entity of the variable: the stated one, else that from which the first foreign key or attribute goes that is applied to it
  abbrev pub variable_entity : ObsPart → Option ℕ
  variable_entity part = elim part.entity [
    | Some name ↦ entity_in (sort_named S name)
    | None ↦ or_else (applied_source part.variable part.left) (applied_source part.variable part.right)
  ]

  abbrev pub is_unknown_entity : Option Name → Bool
  is_unknown_entity None = false
  is_unknown_entity (Some name) = is_none (sort_named S name)

  -- the sides are type terms of one type over a variable of the entity
  abbrev pub have_one_type : List Name → Option ℕ → Raw → Raw → Bool
  have_one_type names None left right = false
  have_one_type names (Some entity) left right = are_of_one_type (raw_sort S names (Entity entity ∷ []) left)
      (raw_sort S names (Entity entity ∷ []) right)

  -- the least rule that an observation equation breaks, where the variable is the one name
  abbrev pub observation_fault_over : List Name → ObsPart → Option TermRefusal
  observation_fault_over names part =
      if is_unknown_entity part.entity || has_unknown S names part.left || has_unknown S names part.right then Some term_refusal.Unknown
      else (if has_wrong_count S part.left || has_wrong_count S part.right then Some term_refusal.WrongCount
      else (if not (have_one_type names (variable_entity part) part.left part.right) then Some term_refusal.WrongSort
      else (if has_reserved S part.left || has_reserved S part.right then Some term_refusal.Reserved
      else (if is_too_large part.left || is_too_large part.right then Some term_refusal.TooLarge
      else None))))

  unfoldable pub observation_fault : ObsPart → Option TermRefusal
  observation_fault part = observation_fault_over (part.variable ∷ []) part

  abbrev pub made_side : List Name → Option ℕ → Raw → TypeTerm
  made_side names entity raw = type_term_in (resolved S names (Entity (number_or_zero entity) ∷ []) raw)

  abbrev pub made_observation_over : List Name → ObsPart → ObsEq
  made_observation_over names part = record {
    entity = number_or_zero (variable_entity part);
    left = made_side names (variable_entity part) part.left;
    right = made_side names (variable_entity part) part.right;
  }

  unfoldable pub made_observation : ObsPart → ObsEq
  made_observation part = made_observation_over (part.variable ∷ []) part

module _ (T : Typeside) where
  abbrev pub entities_fault : List Name → Option TheoryRefusal
  entities_fault entities = first_part_fault (λ name. name) entity_fault T.types 0 entities

  abbrev pub keys_fault : List Name → ℕ → List (Name × Name × Name) → Option TheoryRefusal
  keys_fault entities n keys = first_part_fault (λ part. part.0) (key_fault T entities) (function_names T) n keys

  -- the schema of the entities and foreign keys
  abbrev pub started : List Name → List (Name × Name × Name) → Schema
  started entities keys = record {
    typeside = T;
    entities = entities;
    keys = map (made_key T entities) keys;
    attributes = [];
    path_eqs = [];
    obs_eqs = [];
  }

-- Of the schema so far: the first fault of each further list, whose first part is n, and the schema with that list.
module _ (S : Schema) where
  abbrev pub path_eqs_fault : List (Name × Name × Name) → ℕ → List (List Name × List Name) → Option TheoryRefusal
  path_eqs_fault attributes n path_eqs = first_fault (path_eq_fault S (is_among (part_names attributes))) n path_eqs

  abbrev pub attributes_fault : ℕ → List (Name × Name × Name) → Option TheoryRefusal
  attributes_fault n attributes = first_part_fault (λ part. part.0) (attribute_fault S.typeside S.entities)
      (function_names S.typeside ++ edge_names S.keys) n attributes

  abbrev pub with_path_eqs : List (List Name × List Name) → Schema
  with_path_eqs path_eqs = record {
    typeside = S.typeside;
    entities = S.entities;
    keys = S.keys;
    attributes = S.attributes;
    path_eqs = map (made_path_eq S) path_eqs;
    obs_eqs = S.obs_eqs;
  }

  abbrev pub with_attributes : List (Name × Name × Name) → Schema
  with_attributes attributes = record {
    typeside = S.typeside;
    entities = S.entities;
    keys = S.keys;
    attributes = map (made_attribute S.typeside S.entities) attributes;
    path_eqs = S.path_eqs;
    obs_eqs = S.obs_eqs;
  }

  abbrev pub observations_fault : ℕ → List ObsPart → Option TheoryRefusal
  observations_fault n obs_eqs = first_fault (observation_fault S) n obs_eqs

  abbrev pub with_observations : List ObsPart → Schema
  with_observations obs_eqs = record {
    typeside = S.typeside;
    entities = S.entities;
    keys = S.keys;
    attributes = S.attributes;
    path_eqs = S.path_eqs;
    obs_eqs = map (made_observation S) obs_eqs;
  }

-- the fault of the lists after the foreign keys, the first of whose parts is n, and the schema that they give
module _ (S : Schema) (path_eqs : List (List Name × List Name)) (attributes : List (Name × Name × Name)) (obs_eqs : List ObsPart) where
  abbrev pub extended : Schema
  extended = with_attributes (with_path_eqs S path_eqs) attributes

  abbrev pub rest_fault : ℕ → Option TheoryRefusal
  rest_fault n =
      or_else (path_eqs_fault S attributes n path_eqs)
      (or_else (attributes_fault (with_path_eqs S path_eqs) (n + length path_eqs) attributes)
      (observations_fault extended (n + length path_eqs + length attributes) obs_eqs))

  abbrev pub completed : Schema
  completed = with_observations extended obs_eqs

-- the first part that breaks a rule, with the least rule that it breaks:
-- the entities, then the foreign keys, the path equations, the attributes and the observation equations
abbrev pub schema_fault : Typeside → SchemaParts → Option TheoryRefusal
schema_fault T parts =
    or_else (entities_fault T parts.entities)
    (or_else (keys_fault T parts.entities (length parts.entities) parts.keys)
    (rest_fault (started T parts.entities parts.keys) parts.path_eqs parts.attributes parts.obs_eqs
    (length parts.entities + length parts.keys)))

-- the schema that the parts give, where they break no rule
abbrev pub schema_made : Typeside → SchemaParts → Schema
schema_made T parts = completed (started T parts.entities parts.keys) parts.path_eqs parts.attributes parts.obs_eqs
