-- What files without fault present is a presentation over the schema.
use Rattle.std.proofs.Common.{ℕ, zero, suc, Bool, true, false, List, [], ◌∷◌, ◌++◌, Some, None, ◌≡◌, ◌<◌, ◌≤◌, ◌+◌, ◌-◌, map, length, get_or, refl, sym, ap, subst, ◌∙◌, arith}
use Rattle.std.specs.Prelude.{Result, Ok, Err, IfOk, OnOk, slice_get, slice_index, replicate, codes, decimal, nat_lt, if◌then◌else◌, All}
use Rattle.std.specs.List.{enumerate_from, flat_map, range_with_len}
use Rattle.std.proofs.lemmas.Bool.Decides.{nat_tests}
use Rattle.std.proofs.lemmas.List.{length-append, length-map, length-replicate}
use Rattle.std.proofs.lemmas.List.FromFn.{length-enumerate_from}
use Rattle.std.proofs.lemmas.Option.{slice_get-get_or}
use Rattle.cq_base.specs.declared.name.Name.{Name}
use Rattle.cq_theory.specs.declared.presentation.Presentation.{Presentation}
use Rattle.cq_theory.specs.declared.presentation.Sort.{Sort}
use Rattle.cq_theory.specs.declared.presentation.Sort.TheVariants.{Plain, Entity}
use Rattle.cq_theory.specs.Canonical.{below, named}
use Rattle.cq_theory.specs.Presentation.{IsEquation, IsPresentation, IsSort}
use Rattle.cq_theory.specs.SchemaData.{SchemaData as Schema}
use Rattle.cq_theory.specs.Schema.{IsSchema}
use Rattle.cq_theory.specs.Sorts.{Generators, entity_at, type_at}
use Rattle.cq_theory.proofs.Every.{Every, Every-append, Every-at, Every-flat_map, Every-map}
use Rattle.cq_import.specs.declared.refusal.CsvRefusal.{CsvRefusal}
use Rattle.cq_import.specs.Cells.{Sheet, all_cells, cells_fault, counts, equations_from, rows_at, rows_in, start_of}
use Rattle.cq_import.specs.Faults.{TooLarge}
use Rattle.cq_import.specs.Imports.{entity_sorts, presented, row_sorts, sheets_fault, size_fault, total, labels_of}
use Rattle.cq_import.specs.Labels.{Labels, Use}
use Rattle.cq_import.proofs.CellEquations.{cells_fit, cells_of, equations_hold, labels_in_range, neither_fault}
use Rattle.cq_import.proofs.LabelPlaces.{AreNamed}
use Rattle.cq_import.proofs.Places.{HaveSizes, get-append, get-append_front, get-map, get-replicate, placed, size_of_blocks}
use Rattle.cq_import.proofs.ValueTerms.{IsInRange}

-- Generators by their sorts.
abbrev generator_at : ℕ × Sort → Name × Sort
generator_at p = (codes "g" ++ decimal p.0, p.1)

abbrev IsNamedAt : Generators → ℕ → Sort → Type 0
IsNamedAt G n sort = (name : Name) × (slice_get G n ≡ Some (name, sort))

named_from : (s : ℕ) (sorts : List Sort) (n : ℕ) (sort : Sort) → slice_get sorts n ≡ Some sort → IsNamedAt (map generator_at (enumerate_from s sorts)) n sort
named_from s [] n sort h = cc
named_from s (x ∷ xs) zero sort h = let same : x ≡ sort = cc in (codes "g" ++ decimal s, ap (λ (y : Sort). Some (codes "g" ++ decimal s, y)) same)
named_from s (x ∷ xs) (suc n) sort h = named_from (s + 1) xs n sort h

named_sort : (sorts : List Sort) (n : ℕ) (sort : Sort) → slice_get sorts n ≡ Some sort → IsNamedAt (named sorts) n sort
named_sort sorts n sort h = named_from 1 sorts n sort h

named_length : (sorts : List Sort) → length (named sorts) ≡ length sorts
named_length sorts = length-map (enumerate_from 1 sorts) generator_at ∙ length-enumerate_from 1 sorts

named_every : (P : Sort → Type 0) (s : ℕ) (sorts : List Sort) → Every P sorts → Every (λ (g : Name × Sort). P g.1) (map generator_at (enumerate_from s sorts))
named_every P s [] each = tt
named_every P s (x ∷ xs) each = (each.0, named_every P (s + 1) xs each.1)

all_of_them : (P : Name × Sort → Type 0) (G : Generators) → Every P G → All P G
all_of_them P G each k d within = Every-at P G k (get_or G k d) each (slice_get-get_or G k d within)

copies : (S : Schema) (entity n : ℕ) → entity < length S.entities → Every (IsSort S) (replicate n (Entity entity))
copies S entity zero within = tt
copies S entity (suc n) within = (within, copies S entity n within)

below_end : (s n k y : ℕ) → slice_get (range_with_len s n) k ≡ Some y → y < s + n
below_end s zero k y h = cc
below_end s (suc n) zero y h = let same : s ≡ y = cc in omega arith
below_end s (suc n) (suc k) y h = omega (arith, below_end (s + 1) n k y h)

-- Records by their entities.
count_is : (sheets : List Sheet) (k : ℕ) → length (rows_in (slice_get sheets k)) ≡ slice_index (map (λ (sheet : Sheet). length sheet.rows) sheets) k
count_is [] k = refl
count_is (s ∷ sheets) zero = refl
count_is (s ∷ sheets) (suc k) = count_is sheets k

inside : (sheets : List Sheet) (entity row : ℕ) → row < length (rows_in (slice_get sheets entity)) → entity < length sheets
inside [] entity row within = absurd (omega arith)
inside (s ∷ sheets) zero row within = omega arith
inside (s ∷ sheets) (suc entity) row within = omega (arith, inside sheets entity row within)

pub few : (count : ℕ) → size_fault count ≡ None → count ≤ 16000000
few count none = at_test (nat_lt 16000000 count) refl none
  where
    at_most : (n : ℕ) → nat_lt 16000000 n ≡ false → n ≤ 16000000
    at_most n h = grind (arith, nat_tests)

    at_test : (b : Bool) → nat_lt 16000000 count ≡ b → (if b then Some TooLarge else None) ≡ None → count ≤ 16000000
    at_test true e h = cc h
    at_test false e h = at_most count e

module _ (S : Schema) (schema : IsSchema S) (sheets : List Sheet) (same : length sheets ≡ length S.entities) where
  sizes : HaveSizes (entity_sorts sheets) 0 (counts sheets)
  sizes k within =
      let here : 0 + k ≡ k = omega arith in
      length-replicate (length (rows_at sheets (0 + k))) (Entity (0 + k)) ∙ ap (λ n. length (rows_at sheets n)) here ∙ count_is sheets k

  as_many : length (counts sheets) ≡ length S.entities
  as_many = length-map sheets (λ (sheet : Sheet). length sheet.rows) ∙ same

  rows_are : flat_map (entity_sorts sheets) (below (length (counts sheets))) ≡ row_sorts S sheets
  rows_are = ap (λ n. flat_map (entity_sorts sheets) (below n)) as_many

  pub rows_total : length (row_sorts S sheets) ≡ total S sheets
  rows_total = ap length (sym rows_are) ∙ size_of_blocks (entity_sorts sheets) 0 (counts sheets) sizes

  row_sort : (entity row : ℕ) → row < length (rows_at sheets entity) → slice_get (row_sorts S sheets) (start_of sheets entity + row) ≡ Some (Entity entity)
  row_sort entity row within =
      let here : 0 + entity ≡ entity = omega arith in
      let there : entity < length (counts sheets) = omega (arith, inside sheets entity row within, length-map sheets (λ (sheet : Sheet). length sheet.rows)) in
      ap (λ l. slice_get l (start_of sheets entity + row)) (sym rows_are)
      ∙ placed (entity_sorts sheets) 0 (counts sheets) sizes entity row (Entity entity) there
      (ap (λ n. slice_get (entity_sorts sheets n) row) here ∙ get-replicate (length (rows_at sheets entity)) row (Entity entity) within)

  module _ (labels : Labels) where
    abbrev sorts : List Sort
    sorts = row_sorts S sheets ++ map (λ (u : Use). Plain u.1) labels

    pub row_named : (entity row : ℕ) → row < length (rows_at sheets entity) → entity_at (slice_get (named sorts) (start_of sheets entity + row)) ≡ Some entity
    row_named entity row within =
        let at = get-append_front (row_sorts S sheets) (map (λ (u : Use). Plain u.1) labels) (start_of sheets entity + row) (Entity entity) (row_sort entity row within) in
        let found = named_sort sorts (start_of sheets entity + row) (Entity entity) at in
        ap entity_at found.1

    pub labels_named : AreNamed (named sorts) (total S sheets) labels
    labels_named n u at =
        let there = get-append (row_sorts S sheets) (map (λ (v : Use). Plain v.1) labels) n (Plain u.1) (get-map (λ (v : Use). Plain v.1) labels n u at) in
        let here : slice_get sorts (total S sheets + n) ≡ Some (Plain u.1) = ap (λ m. slice_get sorts (m + n)) (sym rows_total) ∙ there in
        let found = named_sort sorts (total S sheets + n) (Plain u.1) here in
        ap type_at found.1

    pub generators_sorted : Every (IsInRange S.typeside schema.typeside) labels → All (λ (g : Name × Sort). IsSort S g.1) (named sorts)
    generators_sorted range =
        all_of_them (λ (g : Name × Sort). IsSort S g.1) (named sorts)
        (named_every (IsSort S) 1 sorts
        (Every-append (IsSort S) (row_sorts S sheets) (map (λ (u : Use). Plain u.1) labels)
        (Every-flat_map (IsSort S) (entity_sorts sheets) (below (length S.entities)) (λ n entity at. copies S entity (length (rows_at sheets entity)) (omega (arith, below_end 0 (length S.entities) n entity at))))
        (Every-map (IsSort S) (λ (u : Use). Plain u.1) labels (λ n u at. Every-at (IsInRange S.typeside schema.typeside) labels n u range at))))

    pub generators_count : length (named sorts) ≡ total S sheets + length labels
    generators_count =
        omega (arith, named_length sorts, length-append (row_sorts S sheets) (map (λ (u : Use). Plain u.1) labels), rows_total, length-map labels (λ (u : Use). Plain u.1))

  pub presented_is : sheets_fault S sheets ≡ None → IsPresentation S (presented S sheets)
  presented_is none =
      let parts = neither_fault (size_fault (total S sheets)) (cells_fault sheets S.typeside (Some (16000000 - total S sheets)) [] (all_cells S sheets)) none in
      let records = few (total S sheets) parts.0 in
      let labels = labels_of S sheets in
      let cells = cells_of S schema sheets (presented S sheets) (row_named labels) (below (length S.entities)) in
      let room : total S sheets + (16000000 - total S sheets) ≤ 16000000 = omega arith in
      let none_yet : Labels = [] in
      let start : total S sheets + length none_yet ≤ 16000000 = omega arith in
      let fits = cells_fit sheets S.typeside (Some (16000000 - total S sheets)) (total S sheets) [] (all_cells S sheets) room parts.1 start in
      record {
        generators = generators_sorted labels (labels_in_range S schema sheets (presented S sheets) (row_named labels) [] (all_cells S sheets) cells tt);
        count = omega (arith, generators_count labels, fits);
        equations = λ n e at.
            Every-at (IsEquation S (presented S sheets)) (equations_from sheets S.typeside (total S sheets) [] (all_cells S sheets)) n e
            (equations_hold S schema sheets (presented S sheets) (row_named labels) (total S sheets) (Some (16000000 - total S sheets)) [] (all_cells S sheets) cells parts.1 (labels_named labels)) at;
      }

  -- what is presented, where something is
  pub if_presented : (result : Result Presentation CsvRefusal) → OnOk result (sheets_fault S sheets ≡ None) → IfOk result (λ p. p ≡ presented S sheets) → IfOk result (IsPresentation S)
  if_presented (Ok p) passed is = subst (IsPresentation S) (sym is) (presented_is passed)
  if_presented (Err r) passed is = tt
