-- The lines of the generators of a literal, written by rows and nulls, are those of the canonical presentation.
use Rattle.std.proofs.Common.{ℕ, zero, suc, List, [], ◌∷◌, ◌++◌, ◌+◌, ◌≡◌, ◌<◌, ◌≤◌, map, take, length, refl, sym, ap, ◌∙◌, arith}
use Rattle.std.specs.Prelude.{slice_index, replicate, sum, codes, decimal}
use Rattle.std.specs.List.{flat_map, enumerate_from, range_with_len}
use Rattle.std.proofs.lemmas.Grind.{flat_map-append}
use Rattle.std.proofs.lemmas.List.{append-nil, length-append, length-replicate}
use Rattle.std.proofs.Math.Seq.{take-length}
use Rattle.std.proofs.lemmas.List.Folds.{flat_map-map}
use Rattle.cq_theory.specs.declared.presentation.Sort.{Sort}
use Rattle.cq_theory.specs.declared.presentation.Sort.TheVariants.{Plain, Entity}
use Rattle.cq_theory.specs.SchemaData.{SchemaData as Schema}
use Rattle.cq_theory.specs.Tables.{Tables, count_of}
use Rattle.cq_theory.specs.Canonical.{below, canonical, named, row_sorts}
use Rattle.cq_instance.specs.Numbers.{start_of}
use Rattle.cq_instance.proofs.Lists.{flat_map_same, map-append, map-range_shift}
use Rattle.cq_instance.proofs.Pushed.{start_more}
use Rattle.cq_text.specs.Literal.{generator_line}
use Rattle.cq_text.specs.Spelling.{null_generator_line, plain_line, row_generator_line}
use Rattle.cq_text.proofs.Belows.{below_more}
use Rattle.cq_text.proofs.Numbers.{enumerate_from-append}

-- what f gives of the numbers from one on is what it gives of those from 0 on, that many later
flat_map-shift : {Z : Type 0} (f : ℕ → List Z) (s n : ℕ) → flat_map f (range_with_len s n) ≡ flat_map (λ k. f (s + k)) (range_with_len 0 n)
flat_map-shift f s n =
    let from : s + 0 ≡ s = omega arith in
    ap (λ m. flat_map f (range_with_len m n)) (sym from) ∙ ap (flat_map f) (sym (map-range_shift s 0 n)) ∙ flat_map-map f (λ k. s + k) (range_with_len 0 n)

module _ (S : Schema) where
  abbrev line_at : ℕ → Sort → List ℕ
  line_at n sort = generator_line S (codes "g" ++ decimal n, sort)

  -- the generators of these sorts, numbered from s on
  abbrev lines_from : ℕ → List Sort → List ℕ
  lines_from s sorts = flat_map (generator_line S) (map (λ p. (codes "g" ++ decimal p.0, p.1)) (enumerate_from s sorts))

  lines_from-append : (s : ℕ) (xs ys : List Sort) → lines_from s (xs ++ ys) ≡ lines_from s xs ++ lines_from (s + length xs) ys
  lines_from-append s xs ys =
      ap (λ l. flat_map (generator_line S) (map (λ p. (codes "g" ++ decimal p.0, p.1)) l)) (enumerate_from-append s xs ys)
      ∙ ap (flat_map (generator_line S)) (map-append (λ p. (codes "g" ++ decimal p.0, p.1)) (enumerate_from s xs) (enumerate_from (s + length xs) ys))
      ∙ flat_map-append (generator_line S) (map (λ p. (codes "g" ++ decimal p.0, p.1)) (enumerate_from s xs)) (map (λ p. (codes "g" ++ decimal p.0, p.1)) (enumerate_from (s + length xs) ys))

  lines_of_copies : (n s : ℕ) (sort : Sort) → lines_from s (replicate n sort) ≡ flat_map (λ k. line_at k sort) (range_with_len s n)
  lines_of_copies zero s sort = refl
  lines_of_copies (suc n) s sort = ap (λ l. line_at s sort ++ l) (lines_of_copies n (s + 1) sort)

  -- a type's generator by its label, and by its place behind the first of the list
  plain_next : (type : ℕ) (nulls : List ℕ) (s k : ℕ) → plain_line S.typeside (s + 1 + k) (slice_index nulls k) ≡ plain_line S.typeside (s + (1 + k)) (slice_index (type ∷ nulls) (1 + k))
  plain_next type nulls s k =
      let there : s + 1 + k ≡ s + (1 + k) = omega arith in
      let one : suc k ≡ 1 + k = omega arith in
      λ i. plain_line S.typeside (there i) (ap (slice_index (type ∷ nulls)) one i)

  lines_of_types : (nulls : List ℕ) (s : ℕ) → lines_from (s + 1) (map Plain nulls) ≡ flat_map (λ label. plain_line S.typeside (s + label) (slice_index nulls label)) (range_with_len 0 (length nulls))
  lines_of_types [] s = refl
  lines_of_types (type ∷ nulls) s =
      let first : s ≡ s + 0 = omega arith in
      (λ i. plain_line S.typeside (first i) type ++ lines_of_types nulls (s + 1) i)
      ∙ ap (λ l. plain_line S.typeside (s + 0) type ++ l)
      (flat_map_same _ _ (range_with_len 0 (length nulls)) (λ k _. plain_next type nulls s k)
      ∙ sym (flat_map-shift (λ label. plain_line S.typeside (s + label) (slice_index (type ∷ nulls) label)) 1 (length nulls)))

module _ (S : Schema) (M : Tables) where
  abbrev counts : List ℕ
  counts = M.sheet.counts

  abbrev rows_below : ℕ → List Sort
  rows_below n = flat_map (row_sorts S M) (below n)

  rows_more : (n : ℕ) → rows_below (n + 1) ≡ rows_below n ++ row_sorts S M n
  rows_more n = ap (flat_map (row_sorts S M)) (below_more n) ∙ flat_map-append (row_sorts S M) (below n) (n ∷ []) ∙ ap (λ l. rows_below n ++ l) (append-nil (row_sorts S M n))

  length-rows : (n : ℕ) → n ≤ length counts → length (rows_below n) ≡ start_of counts n
  length-rows zero within = refl
  length-rows (suc n) within =
      let one : suc n ≡ n + 1 = omega arith in
      let inside : n < length counts = omega arith in
      ap (λ m. length (rows_below m)) one ∙ ap length (rows_more n) ∙ length-append (rows_below n) (row_sorts S M n)
      ∙ (λ i. length-rows n (omega arith) i + length-replicate (count_of M n) (Entity n) i) ∙ sym (start_more counts n inside) ∙ ap (start_of counts) (sym one)

  entity_lines : (n : ℕ) → lines_from S (1 + start_of counts n) (row_sorts S M n) ≡ flat_map (row_generator_line S M n) (below (count_of M n))
  entity_lines n =
      let number : (row : ℕ) → 1 + start_of counts n + row ≡ start_of counts n + row + 1 = λ row. omega arith in
      lines_of_copies S (count_of M n) (1 + start_of counts n) (Entity n)
      ∙ flat_map-shift (λ k. line_at S k (Entity n)) (1 + start_of counts n) (count_of M n)
      ∙ flat_map_same _ _ (below (count_of M n)) (λ row _. ap (λ k. line_at S k (Entity n)) (number row))

  abbrev rows_lines_below : ℕ → List ℕ
  rows_lines_below n = flat_map (λ entity. flat_map (row_generator_line S M entity) (below (count_of M entity))) (below n)

  rows_lines : (n : ℕ) → n ≤ length counts → lines_from S 1 (rows_below n) ≡ rows_lines_below n
  rows_lines zero within = refl
  rows_lines (suc n) within =
      let one : suc n ≡ n + 1 = omega arith in
      let lines : ℕ → List ℕ = λ entity. flat_map (row_generator_line S M entity) (below (count_of M entity)) in
      ap (λ m. lines_from S 1 (rows_below m)) one ∙ ap (lines_from S 1) (rows_more n) ∙ lines_from-append S 1 (rows_below n) (row_sorts S M n)
      ∙ (λ i. rows_lines n (omega arith) i ++ lines_from S (1 + length-rows n (omega arith) i) (row_sorts S M n))
      ∙ ap (λ l. rows_lines_below n ++ l) (entity_lines n)
      ∙ sym (ap (flat_map lines) (below_more n) ∙ flat_map-append lines (below n) (n ∷ []) ∙ ap (λ l. flat_map lines (below n) ++ l) (append-nil (lines n)))
      ∙ ap rows_lines_below (sym one)

  nulls_lines : (n : ℕ) → n ≡ sum counts → lines_from S (1 + n) (map Plain M.algebra.nulls) ≡ flat_map (null_generator_line S M) (below (length M.algebra.nulls))
  nulls_lines n whole =
      let start : 1 + n ≡ sum counts + 1 = omega arith in
      ap (λ m. lines_from S m (map Plain M.algebra.nulls)) start ∙ lines_of_types S M.algebra.nulls (sum counts)

  -- all generators
  pub generators_lines : length counts ≡ length S.entities → flat_map (generator_line S) (canonical S M).generators
      ≡ rows_lines_below (length S.entities) ++ flat_map (null_generator_line S M) (below (length M.algebra.nulls))
  generators_lines whole =
      let rows : length S.entities ≤ length counts = omega arith in
      let all : start_of counts (length S.entities) ≡ sum counts = ap (start_of counts) (sym whole) ∙ ap sum (take-length counts) in
      lines_from-append S 1 (rows_below (length S.entities)) (map Plain M.algebra.nulls)
      ∙ (λ i. rows_lines (length S.entities) rows i ++ nulls_lines (length (rows_below (length S.entities))) (length-rows (length S.entities) rows ∙ all) i)
