-- Out of an initial model there is exactly one homomorphism that agrees with an assignment.
use Rattle.std.proofs.Common.{ℕ, zero, suc, Bool, true, false, List, [], ◌∷◌, Some, ◌≡◌, ◌<◌, ◌≤◌, ◌+◌, map, length, refl, sym, ap, ◌∙◌, arith}
use Rattle.std.specs.Prelude.{slice_get, slice_index, slice_index_or, nat_lt}
use Rattle.std.proofs.lemmas.Bool.{ltb-true}
use Rattle.std.proofs.lemmas.Bool.Decides.{nat_tests}
use Rattle.std.proofs.lemmas.Option.{get_or_from_slice_get, slice_get_within}
use Rattle.std.proofs.lemmas.List.FromFn.{get_or-map-range_with_len, length-map-range_with_len}
use Rattle.cq_theory.specs.declared.presentation.Presentation.{Presentation}
use Rattle.cq_theory.specs.declared.presentation.Sort.TheVariants.{Plain}
use Rattle.cq_theory.specs.declared.term.EntTerm.{EntTerm}
use Rattle.cq_theory.specs.declared.term.TypeTerm.{TypeTerm}
use Rattle.cq_theory.specs.declared.term.TypeTerm.TheVariants as term
use Rattle.cq_theory.specs.declared.constant.Con.TheVariants.{Named}
use Rattle.cq_theory.specs.declared.value.Value.{Value}
use Rattle.cq_theory.specs.declared.value.Value.TheVariants.{Const, Null}
use Rattle.cq_theory.specs.SchemaData.{SchemaData as Schema}
use Rattle.cq_theory.specs.Schema.{IsSchema}
use Rattle.cq_theory.specs.Sorts.{entity_of, type_of}
use Rattle.cq_theory.specs.Canonical.{below}
use Rattle.cq_theory.specs.Tables.{Tables, Assignment, count_of, row_of, value_of, Holds, Initial}
use Rattle.cq_theory.specs.Homomorphism.{row_image, IsHomomorphism}
use Rattle.cq_theory.proofs.ResolvedSorts.{map_some}
use Rattle.cq_transform.specs.Agreement.{Agrees}
use Rattle.cq_transform.proofs.ImagesOfTerms.{IsRowOf, IsNullOf, AreImages, images_homomorphism, images_agree, one_images}
use Rattle.cq_transform.proofs.Kept.{are_images}

is_less : (a b : ℕ) → a < b → nat_lt a b ≡ true
is_less a b h = grind (arith, nat_tests)

-- an entity with a row is one
pub within_counts : (xs : List ℕ) (n m : ℕ) → m < slice_index xs n → n < length xs
within_counts [] n m h = absurd (omega arith)
within_counts (x ∷ xs) zero m h = omega arith
within_counts (x ∷ xs) (suc n) m h = let rest : n < length xs = within_counts xs n m h in omega arith

module _ (S : Schema) (P : Presentation) (M N : Tables) (A B : Assignment) (schema : IsSchema S) (initial : Initial S P M A) (holds : Holds S P N B) where
  -- a term that names a row, and one that means a null
  abbrev name_if : (e row : ℕ) (b : Bool) → nat_lt row (count_of M e) ≡ b → EntTerm
  name_if e row true h = (initial.rows e row (ltb-true row (count_of M e) h)).0
  name_if e row false h = record { generator = 0; path = [] }

  abbrev term_if : (n : ℕ) (b : Bool) → nat_lt n (length M.algebra.nulls) ≡ b → TypeTerm
  term_if n true h = (initial.nulls n (ltb-true n (length M.algebra.nulls) h)).0
  term_if n false h = term.Gen 0

  abbrev row_there : ℕ → ℕ → ℕ
  row_there e row = row_of N B (name_if e row (nat_lt row (count_of M e)) refl)

  abbrev null_there : ℕ → Value
  null_there n = value_of N B (term_if n (nat_lt n (length M.algebra.nulls)) refl)

  abbrev rows_of : ℕ → List ℕ
  rows_of e = map (row_there e) (below (count_of M e))

  abbrev rows : List (List ℕ)
  rows = map rows_of (below (length S.entities))

  abbrev nulls : List Value
  nulls = map null_there (below (length M.algebra.nulls))

  named : (e row : ℕ) (b : Bool) (h : nat_lt row (count_of M e) ≡ b) → row < count_of M e → (entity_of S P.generators (name_if e row b h) ≡ Some e) × (row_of M A (name_if e row b h) ≡ row)
  named e row true h within = let t = initial.rows e row (ltb-true row (count_of M e) h) in (t.1, t.2)
  named e row false h within = let less : nat_lt row (count_of M e) ≡ true = is_less row (count_of M e) within in cc

  spelled : (n : ℕ) (b : Bool) (h : nat_lt n (length M.algebra.nulls) ≡ b) → n < length M.algebra.nulls
      → (type : ℕ) × (type_of S P.generators (term_if n b h) ≡ Some type) × (value_of M A (term_if n b h) ≡ Null n)
  spelled n true h within =
      let t = initial.nulls n (ltb-true n (length M.algebra.nulls) h) in
      let typed = map_some Plain (type_of S P.generators t.0) t.1 t.2 in
      (typed.0, typed.1, t.3)
  spelled n false h within = let less : nat_lt n (length M.algebra.nulls) ≡ true = is_less n (length M.algebra.nulls) within in cc

  row_is : (e row : ℕ) → row < count_of M e → row_there e row ≡ row_image S M N rows nulls e row
  row_is e row within =
      let known : e < length S.entities = omega (arith, within_counts M.sheet.counts e row within, initial.holds.well_formed.entities) in
      let list : slice_index_or rows e [] ≡ rows_of e = get_or-map-range_with_len rows_of 0 (length S.entities) e e [] known (omega arith) in
      let here : slice_index (rows_of e) row ≡ row_there e row = get_or-map-range_with_len (row_there e) 0 (count_of M e) row row 0 within (omega arith) in
      sym (ap (λ (l : List ℕ). slice_index l row) list ∙ here)

  counts : (e : ℕ) (images : List ℕ) → slice_get rows e ≡ Some images → length images ≡ count_of M e
  counts e images at =
      let inside : e < length rows = slice_get_within rows e images at in
      let known : e < length S.entities = omega (arith, inside, length-map-range_with_len rows_of 0 (length S.entities)) in
      let list : slice_index_or rows e [] ≡ rows_of e = get_or-map-range_with_len rows_of 0 (length S.entities) e e [] known (omega arith) in
      ap length (sym (get_or_from_slice_get rows e images [] at) ∙ list) ∙ length-map-range_with_len (row_there e) 0 (count_of M e)

  pub images : AreImages S P M N A B rows nulls
  images = record {
    entities = length-map-range_with_len rows_of 0 (length S.entities);
    counted = counts;
    each_row = λ e row within.
        let is = named e row (nat_lt row (count_of M e)) refl within in
        record { name = name_if e row (nat_lt row (count_of M e)) refl; of_entity = is.0; here = is.1; there = row_is e row within };
    null_count = length-map-range_with_len null_there 0 (length M.algebra.nulls);
    each_null = λ n within.
        let is = spelled n (nat_lt n (length M.algebra.nulls)) refl within in
        record {
          name = term_if n (nat_lt n (length M.algebra.nulls)) refl;
          type = is.0;
          typed = is.1;
          here = is.2;
          there = sym (get_or-map-range_with_len null_there 0 (length M.algebra.nulls) n n (Const (Named 0)) within (omega arith));
        };
  }

  pub some_homomorphism : (rows' : List (List ℕ)) × (nulls' : List Value) × IsHomomorphism S M N rows' nulls' × Agrees S P M N A B rows' nulls'
  some_homomorphism = (
    rows,
    nulls,
    images_homomorphism S P M N A B schema initial holds rows nulls images,
    images_agree S P M N A B schema initial holds rows nulls images,
  )

  pub one_homomorphism : (rows' rows'' : List (List ℕ)) (nulls' nulls'' : List Value)
      → IsHomomorphism S M N rows' nulls' → Agrees S P M N A B rows' nulls' → IsHomomorphism S M N rows'' nulls'' → Agrees S P M N A B rows'' nulls''
      → (rows' ≡ rows'') × (nulls' ≡ nulls'')
  one_homomorphism rows' rows'' nulls' nulls'' h a k b =
      one_images S P M N A B schema initial holds rows' rows'' nulls' nulls''
      (are_images S P M N A B initial rows' nulls' h a) (are_images S P M N A B initial rows'' nulls'' k b)
