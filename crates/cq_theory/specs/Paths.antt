-- Paths as they are written. In a path the name of a foreign key is that key. In the last place the name of an attribute is that attribute.
-- Any other name of an entity stays at that entity.
use Rattle.std.specs.Prelude.{ℕ, Bool, false, not, List, [], ◌∷◌, ◌+◌, ◌-◌, ◌==◌, ◌&&◌, ◌||◌, if◌then◌else◌, length, Option, Some, None}
use Rattle.std.specs.Prelude.{is_some, nat_lt, slice_get, option_map, option_and_then}
use Rattle.std.specs.List.{list_any, filter_map}
use Rattle.cq_base.specs.declared.name.Name.{Name}
use Rattle.cq_base.specs.Names.{number_of}
use Rattle.cq_theory.specs.declared.refusal.TermRefusal.{TermRefusal}
use Rattle.cq_theory.specs.declared.refusal.TermRefusal.TheVariants.{Unknown, WrongSort, TooLarge}
use Rattle.cq_theory.specs.declared.schema.Edge.{Edge}
use Rattle.cq_theory.specs.declared.schema.PathEq.{PathEq}
use Rattle.cq_theory.specs.SchemaData.{SchemaData as Schema}
use Rattle.cq_theory.specs.Typeside.{function_names}
use Rattle.cq_theory.specs.Schema.{edge_names}
use Rattle.cq_theory.specs.Resolve.{or_else}
use Rattle.cq_theory.specs.Declaring.{number_or_zero}

-- the name is one of the names
abbrev pub is_among : List Name → Name → Bool
is_among names name = is_some (number_of names name)

-- where a step leads from an entity
abbrev pub stepped : Option (ℕ × ℕ) → ℕ → Option ℕ
stepped None entity = None
stepped (Some step) entity = if step.0 == entity then Some step.1 else None

-- both paths begin at one entity and end at one entity
abbrev pub are_same_ends : Option (ℕ × ℕ) → Option (ℕ × ℕ) → Bool
are_same_ends (Some p) (Some q) = (p.0 == q.0) && (p.1 == q.1)
are_same_ends _ _ = false

module _ (S : Schema) where
  abbrev pub key_named : Name → Option Edge
  key_named name = option_and_then (slice_get S.keys) (number_of (edge_names S.keys) name)

  -- the entity from which a name leads, and the one to which it leads
  abbrev pub path_step : Name → Option (ℕ × ℕ)
  path_step name =
      or_else (option_map (λ key. (key.from, key.to)) (key_named name))
      (option_map (λ entity. (entity, entity)) (number_of S.entities name))

  -- where the names lead from an entity
  abbrev pub path_end : List Name → ℕ → Option ℕ
  path_end [] entity = Some entity
  path_end (name ∷ names) entity = option_and_then (path_end names) (stepped (path_step name) entity)

  -- where a path begins
  abbrev pub path_start : List Name → Option ℕ
  path_start [] = None
  path_start (name ∷ names) = option_map (λ step. step.0) (path_step name)

  -- the foreign keys of a path
  abbrev pub path_keys : List Name → List ℕ
  path_keys names = filter_map (number_of (edge_names S.keys)) names

  abbrev pub key_path_symbols : List Name → ℕ
  key_path_symbols names = length (path_keys names) + 1

  module _ (is_attribute : Name → Bool) where
    -- the name stands in no table of sorts or symbols
    abbrev pub is_unknown_in_path : Name → Bool
    is_unknown_in_path name =
        not (is_among S.typeside.types name || is_among S.entities name
        || is_among (function_names S.typeside) name || is_among (edge_names S.keys) name || is_attribute name)

    abbrev pub has_unknown_name : List Name → Bool
    has_unknown_name names = list_any is_unknown_in_path names

    abbrev pub is_attribute_last : Option Name → Bool
    is_attribute_last None = false
    is_attribute_last (Some name) = not (is_among (edge_names S.keys) name) && is_attribute name

    -- where a path of foreign keys begins and ends, if its names can stand where they do
    abbrev pub key_path_ends : List Name → Option (ℕ × ℕ)
    key_path_ends names =
        if is_attribute_last (slice_get names (length names - 1)) then None
        else option_and_then (λ start. option_map (λ target. (start, target)) (path_end names start)) (path_start names)

    -- the least rule that a path equation breaks
    abbrev pub path_eq_fault : List Name × List Name → Option TermRefusal
    path_eq_fault e =
        if has_unknown_name e.0 || has_unknown_name e.1 then Some Unknown
        else (if not (are_same_ends (key_path_ends e.0) (key_path_ends e.1)) then Some WrongSort
        else (if nat_lt 1024 (key_path_symbols e.0) || nat_lt 1024 (key_path_symbols e.1) then Some TooLarge
        else None))

  abbrev pub made_path_eq : List Name × List Name → PathEq
  made_path_eq e = record { entity = number_or_zero (path_start e.0); left = path_keys e.0; right = path_keys e.1 }
