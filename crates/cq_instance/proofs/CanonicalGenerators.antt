-- The generators of the canonical presentation: their sorts, and what they stand for.
use Rattle.std.proofs.Common.{ℕ, List, [], ◌++◌, Option, Some, None, ◌≡◌, ◌<◌, ◌+◌, ◌⊎◌, inl, inr, map, length, sum, refl, sym, ap, subst, ◌∙◌, arith}
use Rattle.std.specs.Prelude.{slice_get, slice_index, slice_index_or, option_map, option_and_then, codes, decimal}
use Rattle.std.specs.List.{flat_map, enumerate_from}
use Rattle.std.proofs.lemmas.List.{length-append, length-map, length-replicate}
use Rattle.std.proofs.lemmas.List.FromFn.{length-enumerate_from, length-map-range_with_len}
use Rattle.std.proofs.lemmas.Option.{slice_get-map, slice_get_within, get_or_from_slice_get}
use Rattle.cq_base.specs.declared.name.Name.{Name}
use Rattle.cq_theory.specs.declared.presentation.Sort.{Sort}
use Rattle.cq_theory.specs.declared.presentation.Sort.TheVariants.{Plain, Entity}
use Rattle.cq_theory.specs.SchemaData.{SchemaData as Schema}
use Rattle.cq_theory.specs.declared.value.Value.TheVariants.{Null}
use Rattle.cq_theory.specs.Sorts.{Generators, target_of, entity_at, type_at, entity_of}
use Rattle.cq_theory.specs.Tables.{Tables, Meaning, AtRow, AtValue, Assignment, row_in, count_of, row_of}
use Rattle.cq_theory.specs.Canonical.{below, named, row_generator, null_generator, row_term, row_sorts, canonical, canonical_assignment}
use Rattle.cq_theory.proofs.Every.{at_range}
use Rattle.cq_instance.proofs.Lists.{get-append, get-append_front, get-map, get-map_from}
use Rattle.cq_instance.proofs.TypedTerms.{entity_at_some, type_at_some}
use Rattle.cq_instance.proofs.CanonicalPlaces.{split, get-behind, get-replicate, from_replicate, get-enumerated, HaveSizes, placed, size_of_blocks, from_placed}

abbrev numbered : ℕ × Sort → Name × Sort
numbered p = (codes "g" ++ decimal p.0, p.1)

abbrev named_sort : ℕ → Sort → Name × Sort
named_sort n sort = (codes "g" ++ decimal (1 + n), sort)

-- the generator at a number
get-named : (sorts : List Sort) (n : ℕ) → slice_get (named sorts) n ≡ option_map (named_sort n) (slice_get sorts n)
get-named sorts n = slice_get-map numbered (enumerate_from 1 sorts) n ∙ ap (option_map numbered) (get-enumerated 1 sorts n) ∙ twice (slice_get sorts n)
  where
    twice : (o : Option Sort) → option_map numbered (option_map (λ sort. (1 + n, sort)) o) ≡ option_map (named_sort n) o
    twice None = refl
    twice (Some sort) = refl

sort_from : (n : ℕ) (o : Option Sort) (g : Name × Sort) → option_map (named_sort n) o ≡ Some g → o ≡ Some g.1
sort_from n None g h = cc
sort_from n (Some sort) g h = let same : named_sort n sort ≡ g = cc in ap (λ (x : Name × Sort). Some x.1) same

type_from : (n : ℕ) (o : Option ℕ) → type_at (option_map (named_sort n) (option_map Plain o)) ≡ o
type_from n None = refl
type_from n (Some type) = refl

module _ (S : Schema) (M : Tables) (same : length M.sheet.counts ≡ length S.entities) where
  abbrev counts : List ℕ
  counts = M.sheet.counts

  abbrev nulls : List ℕ
  nulls = M.algebra.nulls

  abbrev pub of_rows : List Sort
  of_rows = flat_map (row_sorts S M) (below (length S.entities))

  abbrev pub sorts : List Sort
  sorts = of_rows ++ map Plain nulls

  abbrev G : Generators
  G = (canonical S M).generators

  abbrev A : Assignment
  A = canonical_assignment S M

  -- Sizes.

  sort_sizes : HaveSizes (row_sorts S M) 0 counts
  sort_sizes k within = let here : 0 + k ≡ k = omega arith in length-replicate (count_of M (0 + k)) (Entity (0 + k)) ∙ ap (slice_index counts) here

  sort_count : length of_rows ≡ sum counts
  sort_count = ap (λ n. length (flat_map (row_sorts S M) (below n))) (sym same) ∙ size_of_blocks (row_sorts S M) 0 counts sort_sizes

  abbrev meanings : ℕ → List Meaning
  meanings entity = map AtRow (below (count_of M entity))

  abbrev row_meanings : List Meaning
  row_meanings = flat_map meanings (below (length S.entities))

  abbrev null_meaning : ℕ → Meaning
  null_meaning n = AtValue (Null n)

  meaning_sizes : HaveSizes meanings 0 counts
  meaning_sizes k within = let here : 0 + k ≡ k = omega arith in length-map-range_with_len AtRow 0 (count_of M (0 + k)) ∙ ap (slice_index counts) here

  meaning_count : length row_meanings ≡ sum counts
  meaning_count = ap (λ n. length (flat_map meanings (below n))) (sym same) ∙ size_of_blocks meanings 0 counts meaning_sizes

  pub sorts_count : length sorts ≡ sum counts + length nulls
  sorts_count = omega (arith, length-append of_rows (map Plain nulls), sort_count, length-map nulls Plain)

  pub generator_count : length G ≡ sum counts + length nulls
  generator_count = length-map (enumerate_from 1 sorts) numbered ∙ length-enumerate_from 1 sorts ∙ sorts_count

  pub assignment_count : length A ≡ sum counts + length nulls
  assignment_count = omega (arith, length-append row_meanings (map null_meaning (below (length nulls))), meaning_count, length-map-range_with_len null_meaning 0 (length nulls))

  -- What stands at the numbers of rows and nulls.

  row_sort : (e row : ℕ) → e < length S.entities → row < count_of M e → slice_get sorts (row_generator S M e row) ≡ Some (Entity e)
  row_sort e row within inside =
      let here : 0 + e ≡ e = omega arith in
      let at : slice_get (row_sorts S M (0 + e)) row ≡ Some (Entity e) = ap (λ n. slice_get (row_sorts S M n) row) here ∙ get-replicate (count_of M e) row (Entity e) inside in
      get-append_front of_rows (map Plain nulls) (row_generator S M e row) (Entity e)
      (ap (λ n. slice_get (flat_map (row_sorts S M) (below n)) (row_generator S M e row)) (sym same)
      ∙ placed (row_sorts S M) 0 counts sort_sizes e row (Entity e) (omega (arith, same)) at)

  pub row_entity : (e row : ℕ) → e < length S.entities → row < count_of M e → entity_at (slice_get G (row_generator S M e row)) ≡ Some e
  row_entity e row within inside =
      ap entity_at (get-named sorts (row_generator S M e row)) ∙ ap (λ o. entity_at (option_map (named_sort (row_generator S M e row)) o)) (row_sort e row within inside)

  pub null_type : (label : ℕ) → type_at (slice_get G (null_generator S M label)) ≡ slice_get nulls label
  null_type label =
      let n : ℕ = null_generator S M label in
      let place : n ≡ length of_rows + label = omega (arith, sort_count) in
      let found : slice_get sorts n ≡ option_map Plain (slice_get nulls label) = ap (slice_get sorts) place ∙ get-behind of_rows (map Plain nulls) label ∙ slice_get-map Plain nulls label in
      ap type_at (get-named sorts n) ∙ ap (λ o. type_at (option_map (named_sort n) o)) found ∙ type_from n (slice_get nulls label)

  pub row_stands : (e row : ℕ) → e < length S.entities → row < count_of M e → slice_index_or A (row_generator S M e row) (AtRow 0) ≡ AtRow row
  row_stands e row within inside =
      let here : 0 + e ≡ e = omega arith in
      let first : 0 + row ≡ row = omega arith in
      let member : slice_get (below (count_of M e)) row ≡ Some row = at_range 0 (count_of M e) row inside ∙ ap (λ n. Some n) first in
      let at : slice_get (meanings (0 + e)) row ≡ Some (AtRow row) = ap (λ n. slice_get (meanings n) row) here ∙ get-map AtRow (below (count_of M e)) row row member in
      get_or_from_slice_get A (row_generator S M e row) (AtRow row) (AtRow 0)
      (get-append_front row_meanings (map null_meaning (below (length nulls))) (row_generator S M e row) (AtRow row)
      (ap (λ n. slice_get (flat_map meanings (below n)) (row_generator S M e row)) (sym same)
      ∙ placed meanings 0 counts meaning_sizes e row (AtRow row) (omega (arith, same)) at))

  pub null_stands : (label : ℕ) → label < length nulls → slice_index_or A (null_generator S M label) (AtRow 0) ≡ AtValue (Null label)
  null_stands label within =
      let n : ℕ = null_generator S M label in
      let place : n ≡ length row_meanings + label = omega (arith, meaning_count) in
      let first : 0 + label ≡ label = omega arith in
      let member : slice_get (below (length nulls)) label ≡ Some label = at_range 0 (length nulls) label within ∙ ap (λ m. Some m) first in
      get_or_from_slice_get A n (AtValue (Null label)) (AtRow 0)
      (ap (slice_get A) place ∙ get-append row_meanings (map null_meaning (below (length nulls))) label (AtValue (Null label)) (get-map null_meaning (below (length nulls)) label label member))

  -- Whose generator a number is.

  pub record IsRowAt (n : ℕ) (sort : Sort) : Type 0 where
    pub entity : ℕ
    pub row : ℕ
    pub within : entity < length S.entities
    pub inside : row < count_of M entity
    pub sort_is : sort ≡ Entity entity
    pub place : n ≡ row_generator S M entity row

  pub record IsNullAt (n : ℕ) (sort : Sort) : Type 0 where
    pub label : ℕ
    pub type : ℕ
    pub typed : slice_get nulls label ≡ Some type
    pub sort_is : sort ≡ Plain type
    pub place : n ≡ null_generator S M label

  from_sort : (n : ℕ) (sort : Sort) → slice_get sorts n ≡ Some sort → IsRowAt n sort ⊎ IsNullAt n sort
  from_sort n sort h = elim (split of_rows (map Plain nulls) n sort h) [
    | inl first ↦
        let at = from_placed (row_sorts S M) 0 counts sort_sizes n sort (ap (λ m. slice_get (flat_map (row_sorts S M) (below m)) n) same ∙ first) in
        let here : 0 + at.block ≡ at.block = omega arith in
        let inner : slice_get (row_sorts S M at.block) at.inner ≡ Some sort = ap (λ m. slice_get (row_sorts S M m) at.inner) (sym here) ∙ at.at in
        let one = from_replicate (count_of M at.block) at.inner (Entity at.block) sort inner in
        inl (record { entity = at.block; row = at.inner; within = omega (arith, at.within, same); inside = one.0; sort_is = one.1; place = at.place })
    | inr later ↦
        let null = get-map_from Plain nulls later.0 sort later.2 in
        inr (record { label = later.0; type = null.0; typed = null.1; sort_is = sym null.2; place = omega (arith, later.1, sort_count) })
  ]

  -- a generator is that of a row or that of a null
  pub from_generator : (n : ℕ) (g : Name × Sort) → slice_get G n ≡ Some g → IsRowAt n g.1 ⊎ IsNullAt n g.1
  from_generator n g h = from_sort n g.1 (sort_from n (slice_get sorts n) g (sym (get-named sorts n) ∙ h))

  -- a generator of an entity is that of one of its rows
  pub from_entity : (n e : ℕ) → entity_at (slice_get G n) ≡ Some e → (row : ℕ) × (e < length S.entities) × (row < count_of M e) × (n ≡ row_generator S M e row)
  from_entity n e h =
      let g = entity_at_some (slice_get G n) e h in
      elim (from_generator n g.0 g.1) [
        | inl at ↦
            let both : Entity at.entity ≡ Entity e = sym at.sort_is ∙ g.2 in
            let one : at.entity ≡ e = cc in
            (at.row, subst (λ m. m < length S.entities) one at.within, subst (λ m. at.row < count_of M m) one at.inside, at.place ∙ ap (λ m. row_generator S M m at.row) one)
        | inr at ↦ let both : Plain at.type ≡ Entity e = sym at.sort_is ∙ g.2 in cc
      ]

  -- a generator of a type is that of a null
  pub from_type : (n type : ℕ) → type_at (slice_get G n) ≡ Some type → (label : ℕ) × (label < length nulls) × (n ≡ null_generator S M label)
  from_type n type h =
      let g = type_at_some (slice_get G n) type h in
      elim (from_generator n g.0 g.1) [
        | inl at ↦ let both : Entity at.entity ≡ Plain type = sym at.sort_is ∙ g.2 in cc
        | inr at ↦ (at.label, slice_get_within nulls at.label at.type at.typed, at.place)
      ]

  -- Rows as terms.

  pub row_term_entity : (e row : ℕ) → e < length S.entities → row < count_of M e → entity_of S G (row_term S M e row) ≡ Some e
  row_term_entity e row within inside = ap (option_and_then (target_of S.keys [])) (row_entity e row within inside)

  pub row_term_row : (e row : ℕ) → e < length S.entities → row < count_of M e → row_of M A (row_term S M e row) ≡ row
  row_term_row e row within inside = ap row_in (row_stands e row within inside)
