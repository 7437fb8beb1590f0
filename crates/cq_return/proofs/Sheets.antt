-- The sheets that an instance's files are.
use Rattle.std.proofs.Common.{ℕ, zero, suc, List, [], ◌∷◌, Some, ◌≡◌, ◌<◌, ◌≤◌, ◌+◌, map, sum, take, length, refl, sym, ap, ◌∙◌, arith}
use Rattle.std.specs.Prelude.{slice_get, slice_index}
use Rattle.std.specs.List.{range_with_len}
use Rattle.std.proofs.lemmas.List.{length-map}
use Rattle.std.proofs.lemmas.List.FromFn.{length-range_with_len}
use Rattle.std.proofs.lemmas.List.Sums.{sum_by-cons}
use Rattle.cq_base.specs.declared.name.Name.{Name}
use Rattle.cq_theory.specs.Canonical.{below}
use Rattle.cq_theory.specs.Tables.{IsWellFormed, count_of}
use Rattle.cq_theory.proofs.Every.{at_range}
use Rattle.cq_instance.specs.InstanceData.{InstanceData}
use Rattle.cq_import.specs.Cells.{Sheet, counts, rows_at, rows_in, start_of}
use Rattle.cq_import.specs.Imports.{file_of, total}
use Rattle.cq_import.specs.Records.{Record}
use Rattle.cq_import.specs.Rows.{ids_of}
use Rattle.cq_return.proofs.Fields.{fields_of}
use Rattle.cq_return.proofs.Ids.{id_text}

get-map : {X Y : Type 0} (f : X → Y) (xs : List X) (n : ℕ) (x : X) → slice_get xs n ≡ Some x → slice_get (map f xs) n ≡ Some (f x)
get-map f [] n x h = cc
get-map f (y ∷ ys) zero x h = let same : y ≡ x = cc in ap (λ z. Some (f z)) same
get-map f (y ∷ ys) (suc n) x h = get-map f ys n x h

-- a list is what stands at its places
pub by_places : (f : ℕ → ℕ) (s : ℕ) (xs : List ℕ) → ((k : ℕ) → k < length xs → f (s + k) ≡ slice_index xs k) → map f (range_with_len s (length xs)) ≡ xs
by_places f s [] each = refl
by_places f s (x ∷ xs) each =
    let here : s + 0 ≡ s = omega arith in
    let one : f s ≡ x = ap f (sym here) ∙ each 0 (omega arith) in
    let others : map f (range_with_len (s + 1) (length xs)) ≡ xs =
    by_places f (s + 1) xs (λ k within. let there : s + 1 + k ≡ s + suc k = omega arith in ap f there ∙ each (suc k) (omega arith)) in
    λ i. one i ∷ others i

pub part_fits : (xs : List ℕ) (k : ℕ) → slice_index xs k ≤ sum xs
part_fits [] k = omega arith
part_fits (x ∷ xs) zero = omega (arith, sum_by-cons (λ m. m) x xs)
part_fits (x ∷ xs) (suc k) = let later = part_fits xs k in omega (arith, sum_by-cons (λ m. m) x xs)

module _ (dir : Name) (i : InstanceData) where
  abbrev pub rows : ℕ → List Record
  rows entity = map (fields_of i entity) (below (count_of i.tables entity))

  abbrev pub sheet : ℕ → Sheet
  sheet entity = record { file = file_of [] dir i.schema entity; rows = rows entity }

  abbrev pub sheets : List Sheet
  sheets = map sheet (below (length i.schema.entities))

  pub there : (entity : ℕ) → entity < length i.schema.entities → slice_get sheets entity ≡ Some (sheet entity)
  there entity within =
      let here : 0 + entity ≡ entity = omega arith in
      get-map sheet (below (length i.schema.entities)) entity entity (at_range 0 (length i.schema.entities) entity within ∙ ap (λ n. Some n) here)

  pub rows_there : (entity : ℕ) → entity < length i.schema.entities → rows_at sheets entity ≡ rows entity
  rows_there entity within = ap rows_in (there entity within)

  pub count_is : (entity : ℕ) → length (rows entity) ≡ count_of i.tables entity
  count_is entity = length-map (below (count_of i.tables entity)) (fields_of i entity) ∙ length-range_with_len 0 (count_of i.tables entity)

  ids_from : (entity s n : ℕ) → ids_of (map (fields_of i entity) (range_with_len s n)) ≡ map id_text (range_with_len s n)
  ids_from entity s zero = refl
  ids_from entity s (suc n) = ap (λ l. id_text s ∷ l) (ids_from entity (s + 1) n)

  pub ids_there : (entity : ℕ) → entity < length i.schema.entities → ids_of (rows_at sheets entity) ≡ map id_text (below (count_of i.tables entity))
  ids_there entity within = ap ids_of (rows_there entity within) ∙ ids_from entity 0 (count_of i.tables entity)

  counts_from : (s n : ℕ) → counts (map sheet (range_with_len s n)) ≡ map (count_of i.tables) (range_with_len s n)
  counts_from s zero = refl
  counts_from s (suc n) = let one = count_is s in let others = counts_from (s + 1) n in λ j. one j ∷ others j

  module _ (well : IsWellFormed i.schema i.tables) where
    pub counts_are : counts sheets ≡ i.tables.sheet.counts
    counts_are =
        counts_from 0 (length i.schema.entities) ∙ ap (λ n. map (count_of i.tables) (below n)) (sym well.entities)
        ∙ by_places (count_of i.tables) 0 i.tables.sheet.counts (λ k within. let here : 0 + k ≡ k = omega arith in ap (count_of i.tables) here)

    pub total_is : total i.schema sheets ≡ sum i.tables.sheet.counts
    total_is = ap sum counts_are

    pub start_is : (entity : ℕ) → start_of sheets entity ≡ sum (take entity i.tables.sheet.counts)
    start_is entity = ap (λ l. sum (take entity l)) counts_are
