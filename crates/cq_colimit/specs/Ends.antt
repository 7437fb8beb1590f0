-- The entities that are listed as one. An end has the name of a part and the name of an entity of its schema.
use Rattle.std.specs.Prelude.{ℕ, Option, Some, None, List, ◌+◌, ◌||◌, if◌then◌else◌, is_none, map, option_map, option_and_then, slice_get}
use Rattle.cq_base.specs.declared.name.Name.{Name}
use Rattle.cq_base.specs.Names.{number_of}
use Rattle.cq_theory.specs.declared.refusal.TermRefusal.{TermRefusal}
use Rattle.cq_theory.specs.declared.refusal.TermRefusal.TheVariants.{Unknown, WrongSort}
use Rattle.cq_theory.specs.declared.refusal.TheoryRefusal.{TheoryRefusal}
use Rattle.cq_theory.specs.declared.presentation.Sort.{Sort}
use Rattle.cq_theory.specs.Declaring.{number_or_zero}
use Rattle.cq_theory.specs.Resolve.{sort_named, entity_in, first_fault}
use Rattle.cq_colimit.specs.PlacedData.{PlacedData as Placed}

module _ (parts : List Placed) where
  abbrev pub part_named : Name → Option Placed
  part_named name = option_and_then (slice_get parts) (number_of (map (λ part. part.name) parts) name)

  -- the type or entity of an end, in the part's own table
  abbrev pub end_sort : Name × Name → Option Sort
  end_sort end = option_and_then (λ part. sort_named part.schema end.1) (part_named end.0)

  -- the number of an entity among those of all parts
  abbrev pub end_number : Name × Name → Option ℕ
  end_number end = option_and_then (λ part. option_map (λ entity. part.start.entity + entity) (entity_in (sort_named part.schema end.1)))
      (part_named end.0)

  -- the least rule that a pair of ends breaks: a name isn't declared, or a type stands in the place of an entity
  abbrev pub pair_fault : (Name × Name) × (Name × Name) → Option TermRefusal
  pair_fault pair =
      if is_none (end_sort pair.0) || is_none (end_sort pair.1) then Some Unknown
      else (if is_none (end_number pair.0) || is_none (end_number pair.1) then Some WrongSort
      else None)

  abbrev pub pairs_fault : ℕ → List ((Name × Name) × (Name × Name)) → Option TheoryRefusal
  pairs_fault n pairs = first_fault pair_fault n pairs

  abbrev pub link_of : (Name × Name) × (Name × Name) → ℕ × ℕ
  link_of pair = (number_or_zero (end_number pair.0), number_or_zero (end_number pair.1))

  -- the pairs by their numbers
  abbrev pub links_of : List ((Name × Name) × (Name × Name)) → List (ℕ × ℕ)
  links_of pairs = map link_of pairs
