-- Tables of answers: they ascend, and a binary search finds the place of each.
use Rattle.std.proofs.Common.{ℕ, zero, suc, List, [], ◌∷◌, Option, Some, None, Result, Ok, Err, ◌≡◌, ◌<◌, ◌+◌, inl, inr, length, get_or, refl, sym, ap, subst, ◌∙◌, arith}
use Rattle.std.specs.Prelude.{slice_get, false, true, position, nat_eq}
use Rattle.std.specs.Option.{unwrap_or}
use Rattle.std.specs.Ordering.{nat_cmp, is_eq}
use Rattle.std.specs.declared.cmp.Ordering.{Ordering}
use Rattle.std.specs.declared.cmp.Ordering.TheVariants.{Less, Equal, Greater}
use Rattle.std.specs.Cmp.Lexicographic.{pointwise, slice_cmp, nat_list_cmp_total, texts_ties, nat_list_eq_equiv}
use Rattle.std.specs.List.Sorted.{IsSearchInRange, IsBinarySearchResult}
use Rattle.std.proofs.lemmas.List.Sorted.{searchable_from_sorted}
use Rattle.std.proofs.lemmas.Bool.{cases_lt}
use Rattle.std.proofs.lemmas.List.Quantifiers.{position-Some}
use Rattle.std.proofs.lemmas.Option.{slice_get-get_or}
use Rattle.cq_theory.specs.Tables.{Tables}
use Rattle.cq_query.specs.QueryData.{QueryData as Query}
use Rattle.cq_query.specs.Answers.{tuples, variable_counts}
use Rattle.cq_query.specs.Translation.{tests_at}
use Rattle.std.specs.List.{list_all}
use Rattle.cq_eval.specs.Testing.{holds_at}
use Rattle.cq_eval.specs.Made.{answers_of, place_in, AreAscending, StandOnce}
use Rattle.cq_eval.proofs.Answered.{place_found, same_rows}
use Rattle.cq_eval.proofs.Counted.{is_before, Rises}
use Rattle.cq_eval.proofs.Ordered.{filter_rises, tuples_rise}

-- what rises is sorted
sorted_at : (l : List (List ℕ)) → Rises l → (k : ℕ) (d : List ℕ) → k + 1 < length l → is_before (get_or l (suc k) d) (get_or l k d) ≡ false
sorted_at [] up k d less = absurd (omega arith)
sorted_at (x ∷ l) up zero d less = up.0 (get_or l 0 d) (0, slice_get-get_or l 0 d (omega (arith, less)))
sorted_at (x ∷ l) up (suc k) d less = sorted_at l up.1 k d (omega (arith, less))

pub ascending : (l : List (List ℕ)) → Rises l → AreAscending l
ascending l up k d from less =
    let next : k + 1 ≡ suc k = omega arith in
    ap (λ n. is_before (get_or l n d) (get_or l k d)) next ∙ sorted_at l up k d less

pub answers_ascend : (Q : Query) (M : Tables) (entity : ℕ) → AreAscending (answers_of Q M entity)
answers_ascend Q M entity =
    let counts : List ℕ = variable_counts Q M entity in
    ascending (answers_of Q M entity) (filter_rises (λ rows. list_all (holds_at M rows) (tests_at Q entity)) (tuples counts) (tuples_rise counts))

-- lists that no order tells apart are equal
equal_rows : (x y : List ℕ) → slice_cmp nat_cmp x y ≡ Equal → x ≡ y
equal_rows x y tie = same_rows x y (texts_ties x y ∙ ap is_eq tie)

equal_itself : (x : List ℕ) → slice_cmp nat_cmp x x ≡ Equal
equal_itself x = by (slice_cmp nat_cmp x x) (sym (texts_ties x x) ∙ nat_list_eq_equiv.refl x)
  where
    by : (o : Ordering) → is_eq o ≡ true → o ≡ Equal
    by Less h = cc
    by Equal h = refl
    by Greater h = cc

-- the place of which a binary search tells
abbrev pub place_by : Result ℕ ℕ → ℕ
place_by (Ok p) = p
place_by (Err i) = 0

module _ (lists : List (List ℕ)) (once : StandOnce lists) (up : AreAscending lists) (rows : List ℕ) where
  found : (p : ℕ) → p < length lists → ((d : List ℕ) → slice_cmp nat_cmp (get_or lists p d) rows ≡ Equal) → p ≡ place_in lists rows
  found p inside tie =
      let here : slice_get lists p ≡ Some rows = slice_get-get_or lists p [] inside ∙ ap (λ r. Some r) (equal_rows (get_or lists p []) rows (tie [])) in
      once p (place_in lists rows) rows here (place_found lists p rows here)

  absent : (p : ℕ) → ((k : ℕ) → k < length lists → slice_cmp nat_cmp (get_or lists k []) rows ≡ Equal → ⊥) → 0 ≡ place_in lists rows
  absent p none = by (position (pointwise nat_eq rows) lists) refl
    where
      by : (o : Option ℕ) → position (pointwise nat_eq rows) lists ≡ o → 0 ≡ place_in lists rows
      by None is = ap (λ o. unwrap_or o 0) (sym is)
      by (Some k) is =
          let here = position-Some (pointwise nat_eq rows) lists k [] is in
          let same : rows ≡ get_or lists k [] = same_rows rows (get_or lists k []) here.1 in
          absurd (none k here.0 (ap (λ r. slice_cmp nat_cmp r rows) (sym same) ∙ equal_itself rows))

  pub searched : (r : Result ℕ ℕ) → IsSearchInRange r (length lists) → IsBinarySearchResult (λ y. slice_cmp nat_cmp y rows) lists r → place_by r ≡ place_in lists rows
  searched (Ok p) inside tie = found p inside tie
  searched (Err i) inside parted = absent i none
    where
      none : (k : ℕ) → k < length lists → slice_cmp nat_cmp (get_or lists k []) rows ≡ Equal → ⊥
      none k less tie =
          let parts = parted (searchable_from_sorted nat_list_cmp_total (λ (y : List ℕ). y) lists rows up) in
          elim (cases_lt k i) [
            | inl before ↦ let both : Equal ≡ Less = sym tie ∙ parts.0 k [] (omega arith) before in cc
            | inr behind ↦ let both : Equal ≡ Greater = sym tie ∙ parts.1 k [] behind less in cc
          ]

-- the same of a slice that has the lists
pub searched_in : (lists slice : List (List ℕ)) → slice ≡ lists → StandOnce lists → AreAscending lists → (rows : List ℕ) (r : Result ℕ ℕ)
    → IsSearchInRange r (length slice) → IsBinarySearchResult (λ y. slice_cmp nat_cmp y rows) slice r → place_by r ≡ place_in lists rows
searched_in lists slice same once up rows r inside is =
    searched lists once up rows r (subst (λ (l : List (List ℕ)). IsSearchInRange r (length l)) same inside)
    (subst (λ (l : List (List ℕ)). IsBinarySearchResult (λ y. slice_cmp nat_cmp y rows) l r) same is)
