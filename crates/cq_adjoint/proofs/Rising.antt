-- Answers rise: compared with any list of rows, the first are less and the last are greater.
use Rattle.std.proofs.Common.{ℕ, zero, suc, List, [], ◌∷◌, ◌++◌, ◌≡◌, ◌<◌, ◌≤◌, ◌+◌, inl, inr, map, length, get_or, refl, sym, ap, subst, ◌∙◌, arith}
use Rattle.std.specs.List.{flat_map, range_with_len}
use Rattle.std.specs.List.Sorted.{IsNonDecreasingBy}
use Rattle.std.specs.Ordering.{nat_cmp, ordering_then, ordering_index}
use Rattle.std.specs.declared.cmp.Ordering.{Ordering}
use Rattle.std.specs.declared.cmp.Ordering.TheVariants.{Less, Equal, Greater}
use Rattle.std.specs.Cmp.{nat_cmp_is}
use Rattle.std.specs.Cmp.Lexicographic.{slice_cmp}
use Rattle.std.proofs.lemmas.Bool.{cases_order}
use Rattle.cq_theory.specs.Tables.{Tables}
use Rattle.cq_query.specs.QueryData.{QueryData as Query}
use Rattle.cq_query.specs.Answers.{tuples, AreFiltered, none, kept, left_out, MeetsTests, AreAnswers, variable_counts}
use Rattle.cq_adjoint.specs.Copies.{order_to, DoRise}

module _ (n : List ℕ → ℕ) where
  -- n is at least b at the first, and falls nowhere
  abbrev RisesFrom : ℕ → List (List ℕ) → Type 0
  RisesFrom b [] = Unit {0}
  RisesFrom b (x ∷ xs) = (b ≤ n x) × RisesFrom (n x) xs

  from_less : (a b : ℕ) (xs : List (List ℕ)) → a ≤ b → RisesFrom b xs → RisesFrom a xs
  from_less a b [] less h = tt
  from_less a b (x ∷ xs) less h = (omega (arith, less, h.0), h.1)

  append_from : (b m : ℕ) (xs ys : List (List ℕ)) → ((x : List ℕ) → n x ≤ m) → b ≤ m → RisesFrom b xs → RisesFrom m ys → RisesFrom b (xs ++ ys)
  append_from b m [] ys most less h rest = from_less b m ys less rest
  append_from b m (x ∷ xs) ys most less h rest = (h.0, append_from (n x) m xs ys most (most x) h.1 rest)

  -- what begins with one row is all alike
  alike_from : (m row : ℕ) (xs ys : List (List ℕ)) → ((x : List ℕ) → n (row ∷ x) ≡ m) → RisesFrom m ys → RisesFrom m (map (λ rows. row ∷ rows) xs ++ ys)
  alike_from m row [] ys alike rest = rest
  alike_from m row (x ∷ xs) ys alike rest =
      let here : n (row ∷ x) ≡ m = alike x in
      (omega (arith, here), from_less (n (row ∷ x)) m (map (λ rows. row ∷ rows) xs ++ ys) (omega (arith, here)) (alike_from m row xs ys alike rest))

  filtered_from : {P : List ℕ → Type 0} {xs ys : List (List ℕ)} → AreFiltered P xs ys → (b : ℕ) → RisesFrom b xs → RisesFrom b ys
  filtered_from none b h = tt
  filtered_from (kept {x = x} p rest) b h = (h.0, filtered_from rest (n x) h.1)
  filtered_from (left_out {x = x} {ys = ys} p rest) b h = from_less b (n x) ys h.0 (filtered_from rest (n x) h.1)

  at_least : (b : ℕ) (xs : List (List ℕ)) → RisesFrom b xs → (j : ℕ) (d : List ℕ) → j < length xs → b ≤ n (get_or xs j d)
  at_least b [] h j d within = absurd (omega (arith, within))
  at_least b (x ∷ xs) h zero d within = h.0
  at_least b (x ∷ xs) h (suc j) d within = let rest = at_least (n x) xs h.1 j d (omega (arith, within)) in omega (arith, h.0, rest)

  falls_nowhere : (b : ℕ) (xs : List (List ℕ)) → RisesFrom b xs → IsNonDecreasingBy n xs
  falls_nowhere b [] h i j d less within = absurd (omega (arith, within))
  falls_nowhere b (x ∷ xs) h zero zero d less within = omega arith
  falls_nowhere b (x ∷ xs) h zero (suc j) d less within = at_least (n x) xs h.1 j d (omega (arith, within))
  falls_nowhere b (x ∷ xs) h (suc i) zero d less within = absurd (omega (arith, less))
  falls_nowhere b (x ∷ xs) h (suc i) (suc j) d less within = falls_nowhere (n x) xs h.1 i j d (omega (arith, less)) (omega (arith, within))

at_most_two : (o : Ordering) → ordering_index o ≤ 2
at_most_two Less = omega arith
at_most_two Equal = omega arith
at_most_two Greater = omega arith

-- the first rows decide where they differ
less_begins : (k row : ℕ) (x rows : List ℕ) → k < row → order_to (row ∷ rows) (k ∷ x) ≡ 0
less_begins k row x rows h = ap (λ o. ordering_index (ordering_then o (slice_cmp nat_cmp x rows))) (sym (nat_cmp_is k row Less h))

same_begins : (k row : ℕ) (x rows : List ℕ) → k ≡ row → order_to (row ∷ rows) (k ∷ x) ≡ order_to rows x
same_begins k row x rows h = ap (λ o. ordering_index (ordering_then o (slice_cmp nat_cmp x rows))) (sym (nat_cmp_is k row Equal h))

greater_begins : (k row : ℕ) (x rows : List ℕ) → row < k → order_to (row ∷ rows) (k ∷ x) ≡ 2
greater_begins k row x rows h = ap (λ o. ordering_index (ordering_then o (slice_cmp nat_cmp x rows))) (sym (nat_cmp_is k row Greater h))

module _ (rest : List (List ℕ)) where
  abbrev longer : ℕ → List (List ℕ)
  longer row = map (λ rows. row ∷ rows) rest

  -- where all that begin with a row from s on are greater
  all_greater : (rows : List ℕ) (s n : ℕ) → ((k : ℕ) (x : List ℕ) → s ≤ k → order_to rows (k ∷ x) ≡ 2) → RisesFrom (order_to rows) 2 (flat_map longer (range_with_len s n))
  all_greater rows s zero greater = tt
  all_greater rows s (suc n) greater =
      alike_from (order_to rows) 2 s rest (flat_map longer (range_with_len (s + 1) n)) (λ x. greater s x (omega arith))
      (all_greater rows (s + 1) n (λ k x h. greater k x (omega (arith, h))))

  -- behind the same row the rest decides
  same_row : (row : ℕ) (rows : List ℕ) (s : ℕ) → s ≡ row → (b : ℕ) (xs : List (List ℕ)) → RisesFrom (order_to rows) b xs → RisesFrom (order_to (row ∷ rows)) b (map (λ l. s ∷ l) xs)
  same_row row rows s is b [] h = tt
  same_row row rows s is b (x ∷ xs) h =
      let here : order_to (row ∷ rows) (s ∷ x) ≡ order_to rows x = same_begins s row x rows is in (
        omega (arith, here, h.0),
        subst (λ m. RisesFrom (order_to (row ∷ rows)) m (map (λ l. s ∷ l) xs)) (sym here) (same_row row rows s is (order_to rows x) xs h.1),
      )

  each_rises : (row : ℕ) (rows : List ℕ) → RisesFrom (order_to rows) 0 rest → (s n : ℕ) → RisesFrom (order_to (row ∷ rows)) 0 (flat_map longer (range_with_len s n))
  each_rises row rows rises s zero = tt
  each_rises row rows rises s (suc n) =
      let others : List (List ℕ) = flat_map longer (range_with_len (s + 1) n) in
      let greater : (m : ℕ) → row < m → RisesFrom (order_to (row ∷ rows)) 2 (flat_map longer (range_with_len m n)) =
      λ m more. all_greater (row ∷ rows) m n (λ k x h. greater_begins k row x rows (omega (arith, h, more))) in
      elim (cases_order s row) [
        | inl same ↦ append_from (order_to (row ∷ rows)) 0 2 (longer s) others (λ x. at_most_two (slice_cmp nat_cmp x (row ∷ rows))) (omega arith)
            (same_row row rows s same 0 rest rises) (greater (s + 1) (omega (arith, same)))
        | inr other ↦ elim other [
          | inl less ↦ alike_from (order_to (row ∷ rows)) 0 s rest others (λ x. less_begins s row x rows less) (each_rises row rows rises (s + 1) n)
          | inr more ↦ from_less (order_to (row ∷ rows)) 0 2 (longer s ++ others) (omega arith)
              (alike_from (order_to (row ∷ rows)) 2 s rest others (λ x. greater_begins s row x rows more) (greater (s + 1) (omega (arith, more))))
        ]
      ]

tuples_rise : (counts rows : List ℕ) → RisesFrom (order_to rows) 0 (tuples counts)
tuples_rise [] rows = (omega arith, tt)
tuples_rise (count ∷ counts) [] = from_less (order_to []) 0 2 (tuples (count ∷ counts)) (omega arith) (all_greater (tuples counts) [] 0 count (λ k x h. refl))
tuples_rise (count ∷ counts) (row ∷ rows) = each_rises (tuples counts) row rows (tuples_rise counts rows) 0 count

pub answers_rise : (Q : Query) (M : Tables) (entity : ℕ) (answers : List (List ℕ)) → AreAnswers Q M entity answers → DoRise answers
answers_rise Q M entity answers are rows =
    falls_nowhere (order_to rows) 0 answers (filtered_from (order_to rows) are 0 (tuples_rise (variable_counts Q M entity) rows))
