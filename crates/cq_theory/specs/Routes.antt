-- Paths with their names looked up.
use Rattle.std.specs.Prelude.{ℕ, Bool, false, List, [], ◌∷◌, ◌+◌, ◌-◌, ◌==◌, if◌then◌else◌, take, length, Option, Some, None, is_some}
use Rattle.std.specs.Prelude.{is_none, nat_lt, slice_get, option_map, option_and_then}
use Rattle.cq_base.specs.declared.name.Name.{Name}
use Rattle.cq_base.specs.Names.{number_of}
use Rattle.cq_theory.specs.declared.refusal.TermRefusal.{TermRefusal}
use Rattle.cq_theory.specs.declared.refusal.TermRefusal.TheVariants.{Unknown, WrongSort, TooLarge}
use Rattle.cq_theory.specs.declared.presentation.Sort.{Sort}
use Rattle.cq_theory.specs.declared.presentation.Sort.TheVariants.{Plain, Entity}
use Rattle.cq_theory.specs.declared.schema.Edge.{Edge}
use Rattle.cq_theory.specs.declared.route.Route.{Route}
use Rattle.cq_theory.specs.SchemaData.{SchemaData as Schema}
use Rattle.cq_theory.specs.Schema.{edge_names}
use Rattle.cq_theory.specs.Paths.{is_among, path_start, path_end, path_keys, key_path_symbols, has_unknown_name}

abbrev pub is_at : ℕ → Option ℕ → Bool
is_at entity None = false
is_at entity (Some reached) = reached == entity

-- ends that are there where the path breaks no rule
abbrev pub ends_or_first : Option (ℕ × Sort) → ℕ × Sort
ends_or_first None = (0, Entity 0)
ends_or_first (Some ends) = ends

module _ (S : Schema) where
  -- the attribute of a name in the last place, unless the name is that of a foreign key
  abbrev pub attribute_last : Option Name → Option ℕ
  attribute_last None = None
  attribute_last (Some name) = if is_among (edge_names S.keys) name then None else number_of (edge_names S.attributes) name

  abbrev pub path_attribute : List Name → Option ℕ
  path_attribute names = attribute_last (slice_get names (length names - 1))

  -- where a path begins that ends in an attribute of an entity
  abbrev pub start_before : ℕ → List Name → Option ℕ
  start_before entity [] = Some entity
  start_before entity (name ∷ names) = path_start S (name ∷ names)

  -- where a path of entities and foreign keys begins and ends
  abbrev pub entity_ends : List Name → Option (ℕ × Sort)
  entity_ends names = option_and_then (λ start. option_map (λ target. (start, Entity target)) (path_end S names start)) (path_start S names)

  -- the same of one that goes on to an attribute, which must go from the entity that is reached
  abbrev pub attribute_ends : Option Edge → List Name → Option (ℕ × Sort)
  attribute_ends None before = None
  attribute_ends (Some edge) before =
      option_and_then (λ start. if is_at edge.from (path_end S before start) then Some (start, Plain edge.to) else None)
      (start_before edge.from before)

  abbrev pub ends_with : Option ℕ → List Name → Option (ℕ × Sort)
  ends_with None names = entity_ends names
  ends_with (Some attribute) names = attribute_ends (slice_get S.attributes attribute) (take (length names - 1) names)

  -- where a path begins and the sort where it ends, if its names can stand where they do
  abbrev pub path_ends : List Name → Option (ℕ × Sort)
  path_ends names = ends_with (path_attribute names) names

  abbrev pub path_symbols : List Name → ℕ
  path_symbols names = key_path_symbols S names + (if is_some (path_attribute names) then 1 else 0)

  -- the least rule that a path breaks
  abbrev pub path_fault : List Name → Option TermRefusal
  path_fault names =
      if has_unknown_name S (is_among (edge_names S.attributes)) names then Some Unknown
      else (if is_none (path_ends names) then Some WrongSort
      else (if nat_lt 1024 (path_symbols names) then Some TooLarge
      else None))

  abbrev pub routed : List Name → Route
  routed names = record {
    start = (ends_or_first (path_ends names)).0;
    keys = path_keys S names;
    attribute = path_attribute names;
    end = (ends_or_first (path_ends names)).1;
  }
