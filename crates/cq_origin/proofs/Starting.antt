-- The first generator of an entity in what an import presents.
use Rattle.std.proofs.Common.{ℕ, zero, suc, Bool, true, false, List, [], ◌∷◌, ◌++◌, ◌+◌, ◌-◌, ◌≡◌, ◌<◌, ◌≤◌, map, take, length, get_or, refl, sym, ap, subst, ◌∙◌, append_assoc, arith, codes, decimal}
use Rattle.std.specs.Prelude.{nat_lt, replicate, slice_get, slice_index, sum}
use Rattle.std.specs.List.{enumerate_from, flat_map, range_with_len}
use Rattle.std.specs.List.Sorted.{IsPartitionedBy, IsPartitionPoint}
use Rattle.std.proofs.lemmas.Bool.Decides.{nat_tests}
use Rattle.std.proofs.lemmas.List.{length-append, length-map, length-replicate, length-take-le}
use Rattle.cq_base.specs.declared.name.Name.{Name}
use Rattle.cq_theory.specs.declared.presentation.Sort.{Sort}
use Rattle.cq_theory.specs.declared.presentation.Sort.TheVariants.{Plain, Entity}
use Rattle.cq_theory.specs.SchemaData.{SchemaData as Schema}
use Rattle.cq_theory.specs.Canonical.{below, named}
use Rattle.cq_theory.specs.Sorts.{Generators}
use Rattle.cq_theory.proofs.Every.{Every, Every-append, Every-flat_map}
use Rattle.cq_import.specs.Cells.{Sheet, counts, rows_at, rows_in, start_of}
use Rattle.cq_import.specs.Imports.{entity_sorts, row_sorts}
use Rattle.cq_import.proofs.Places.{HaveSizes, size_of_blocks}
use Rattle.cq_origin.specs.Cells.{ArePlain, before_entity, is_before}
use Rattle.cq_origin.proofs.Splits.{in_range, is_partitioned, point_is, range_split}

-- generators of some sorts, numbered from s on
abbrev numbered : ℕ → List Sort → Generators
numbered s sorts = map (λ p. (codes "g" ++ decimal p.0, p.1)) (enumerate_from s sorts)

numbered-append : (s : ℕ) (xs ys : List Sort) → numbered s (xs ++ ys) ≡ numbered s xs ++ numbered (s + length xs) ys
numbered-append s [] ys = let here : s ≡ s + 0 = omega arith in ap (λ n. numbered n ys) here
numbered-append s (x ∷ xs) ys =
    let there : s + 1 + length xs ≡ s + suc (length xs) = omega arith in
    ap (λ l. (codes "g" ++ decimal s, x) ∷ l) (numbered-append (s + 1) xs ys ∙ ap (λ n. numbered (s + 1) xs ++ numbered n ys) there)

numbered-length : (s : ℕ) (xs : List Sort) → length (numbered s xs) ≡ length xs
numbered-length s [] = refl
numbered-length s (x ∷ xs) = ap suc (numbered-length (s + 1) xs)

numbered-every : (P : Sort → Type 0) (s : ℕ) (xs : List Sort) → Every P xs → Every (λ (g : Name × Sort). P g.1) (numbered s xs)
numbered-every P s [] h = tt
numbered-every P s (x ∷ xs) h = (h.0, numbered-every P (s + 1) xs h.1)

-- sorts by the test
abbrev IsBefore : ℕ → Sort → Type 0
IsBefore entity sort = before_entity entity sort ≡ true

abbrev IsBehind : ℕ → Sort → Type 0
IsBehind entity sort = before_entity entity sort ≡ false

lt_true : (m n : ℕ) → m < n → nat_lt m n ≡ true
lt_true m n h = grind (arith, nat_tests)

lt_false : (m n : ℕ) → n ≤ m → nat_lt m n ≡ false
lt_false m n h = grind (arith, nat_tests)

same_sorts : (P : Sort → Type 0) (n : ℕ) (sort : Sort) → P sort → Every P (replicate n sort)
same_sorts P zero sort h = tt
same_sorts P (suc n) sort h = (h, same_sorts P n sort h)

plain_behind : (entity : ℕ) (sorts : List Sort) → ArePlain sorts → Every (IsBehind entity) sorts
plain_behind entity [] h = tt
plain_behind entity (Plain type ∷ sorts) h = (refl, plain_behind entity sorts h)
plain_behind entity (Entity other ∷ sorts) h = absurd h

count_is : (sheets : List Sheet) (k : ℕ) → length (rows_in (slice_get sheets k)) ≡ slice_index (map (λ (sheet : Sheet). length sheet.rows) sheets) k
count_is [] k = refl
count_is (s ∷ sheets) zero = refl
count_is (s ∷ sheets) (suc k) = count_is sheets k

take_index : (xs : List ℕ) (n k : ℕ) → k < n → slice_index (take n xs) k ≡ slice_index xs k
take_index xs zero k h = absurd (omega arith)
take_index [] (suc n) k h = refl
take_index (x ∷ xs) (suc n) zero h = refl
take_index (x ∷ xs) (suc n) (suc k) h = take_index xs n k (omega (arith, h))

module _ (S : Schema) (sheets : List Sheet) (plain : List Sort) (are_plain : ArePlain plain) (as_many : length sheets ≡ length S.entities) (entity : ℕ)
    (within : entity < length S.entities) where
  first_sorts : List Sort
  first_sorts = flat_map (entity_sorts sheets) (range_with_len 0 entity)

  other_sorts : List Sort
  other_sorts = flat_map (entity_sorts sheets) (range_with_len entity (length S.entities - entity)) ++ plain

  split : row_sorts S sheets ++ plain ≡ first_sorts ++ other_sorts
  unfolding first_sorts other_sorts
  split =
      let whole : length S.entities ≡ entity + (length S.entities - entity) = omega (arith, within) in
      let from : 0 + entity ≡ entity = omega arith in
      ap (λ l. l ++ plain)
      (ap (λ n. flat_map (entity_sorts sheets) (range_with_len 0 n)) whole
      ∙ range_split (entity_sorts sheets) 0 entity (length S.entities - entity)
      ∙ ap (λ n. flat_map (entity_sorts sheets) (range_with_len 0 entity) ++ flat_map (entity_sorts sheets) (range_with_len n (length S.entities - entity))) from)
      ∙ append_assoc (flat_map (entity_sorts sheets) (range_with_len 0 entity)) (flat_map (entity_sorts sheets) (range_with_len entity (length S.entities - entity))) plain

  sizes : HaveSizes (entity_sorts sheets) 0 (take entity (counts sheets))
  sizes k inside =
      let here : 0 + k ≡ k = omega arith in
      let low : k < entity = omega (arith, inside, length-take-le entity (counts sheets) (omega (arith, within, as_many, length-map sheets (λ (s : Sheet). length s.rows)))) in
      length-replicate (length (rows_at sheets (0 + k))) (Entity (0 + k))
      ∙ ap (λ n. length (rows_at sheets n)) here
      ∙ count_is sheets k
      ∙ sym (take_index (counts sheets) entity k low)

  first_length : length first_sorts ≡ start_of sheets entity
  unfolding first_sorts
  first_length =
      let taken : length (take entity (counts sheets)) ≡ entity =
      length-take-le entity (counts sheets) (omega (arith, within, as_many, length-map sheets (λ (s : Sheet). length s.rows))) in
      ap (λ n. length (flat_map (entity_sorts sheets) (range_with_len 0 n))) (sym taken)
      ∙ size_of_blocks (entity_sorts sheets) 0 (take entity (counts sheets)) sizes

  first_before : Every (IsBefore entity) first_sorts
  unfolding first_sorts
  first_before = Every-flat_map (IsBefore entity) (entity_sorts sheets) (range_with_len 0 entity) (λ n other at.
      same_sorts (IsBefore entity) (length (rows_at sheets other)) (Entity other) (lt_true other entity (omega (arith, (in_range 0 entity n other at).1))))

  other_behind : Every (IsBehind entity) other_sorts
  unfolding other_sorts
  other_behind =
      Every-append (IsBehind entity) (flat_map (entity_sorts sheets) (range_with_len entity (length S.entities - entity))) plain
      (Every-flat_map (IsBehind entity) (entity_sorts sheets) (range_with_len entity (length S.entities - entity)) (λ n other at.
      same_sorts (IsBehind entity) (length (rows_at sheets other)) (Entity other) (lt_false other entity (in_range entity (length S.entities - entity) n other at).0)))
      (plain_behind entity plain are_plain)

  apart : named (row_sorts S sheets ++ plain) ≡ numbered 1 first_sorts ++ numbered (1 + length first_sorts) other_sorts
  apart = ap (numbered 1) split ∙ numbered-append 1 first_sorts other_sorts

  abbrev gens : Generators
  gens = named (row_sorts S sheets ++ plain)

  pub partitioned : IsPartitionedBy (is_before entity) gens
  partitioned =
      subst (λ (l : Generators). IsPartitionedBy (is_before entity) l) (sym apart)
      (is_partitioned (is_before entity) (numbered 1 first_sorts) (numbered (1 + length first_sorts) other_sorts)
      (numbered-every (IsBefore entity) 1 first_sorts first_before)
      (numbered-every (IsBehind entity) (1 + length first_sorts) other_sorts other_behind))

  -- the point between the generators of the entities before this one and the others
  pub start_is : (i : ℕ) → i ≤ length gens → Name × Sort → IsPartitionPoint (λ g. is_before entity g ≡ true) (λ g. is_before entity g ≡ false) gens i → i ≡ start_of sheets entity
  start_is i bound d point =
      let apart_bound : i ≤ length (numbered 1 first_sorts ++ numbered (1 + length first_sorts) other_sorts) = subst (λ (l : Generators). i ≤ length l) apart bound in
      let apart_point = subst (λ (l : Generators). IsPartitionPoint (λ g. is_before entity g ≡ true) (λ g. is_before entity g ≡ false) l i) apart point in
      point_is (is_before entity) (numbered 1 first_sorts) (numbered (1 + length first_sorts) other_sorts)
      (numbered-every (IsBefore entity) 1 first_sorts first_before)
      (numbered-every (IsBehind entity) (1 + length first_sorts) other_sorts other_behind) i apart_bound d apart_point
      ∙ numbered-length 1 first_sorts
      ∙ first_length
