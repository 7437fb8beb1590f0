-- The place of rows among answers that rise, as a search by halves finds it.
use Rattle.std.proofs.Common.{ℕ, zero, suc, Bool, true, false, List, [], ◌∷◌, Option, Some, None, ◌≡◌, ◌<◌, ◌≤◌, inl, inr, map, length, get_or, refl, sym, ap, ◌∙◌, arith}
use Rattle.std.specs.Prelude.{slice_get, position, nat_eq}
use Rattle.std.specs.Option.{unwrap_or}
use Rattle.std.specs.List.{HoldsAt}
use Rattle.std.specs.List.Sorted.{IsNonDecreasingBy, IsPartitionPoint}
use Rattle.std.specs.Ordering.{nat_cmp, is_eq, ordering_index}
use Rattle.std.specs.declared.cmp.Ordering.TheVariants.{Less, Equal, Greater}
use Rattle.std.specs.Cmp.Lexicographic.{pointwise, slice_cmp, texts_ties, nat_list_cmp_total}
use Rattle.std.proofs.lemmas.Bool.{cases_lt}
use Rattle.std.proofs.lemmas.Cmp.{tied_itself}
use Rattle.std.proofs.lemmas.List.{length-map, get_or-map}
use Rattle.std.proofs.lemmas.List.Quantifiers.{position-Some}
use Rattle.std.proofs.lemmas.Option.{get_or_from_slice_get}
use Rattle.cq_instance.proofs.Lists.{get-map}
use Rattle.cq_transform.proofs.Loops.{member_at}
use Rattle.cq_adjoint.specs.Copies.{place_of, StandOnce, order_to, DoRise}
use Rattle.cq_adjoint.proofs.AnswerPlaces.{same_rows, place_found}

-- the answers are seen by a function of what is searched
module _ {X : Type 0} (f : X → List ℕ) (xs : List X) (rows : List ℕ) where
  -- where an equal one is found, that is the place
  pub found_at : (i : ℕ) → i < length xs → HoldsAt (λ x. slice_cmp nat_cmp (f x) rows ≡ Equal) xs i → StandOnce (map f xs) → i ≡ place_of (map f xs) rows
  found_at i within equal once =
      let there = member_at xs i within in
      let alike : slice_cmp nat_cmp (f there.0) rows ≡ Equal = ap (λ x. slice_cmp nat_cmp (f x) rows) (sym (get_or_from_slice_get xs i there.0 there.0 there.1)) ∙ equal there.0 in
      let same : f there.0 ≡ rows = same_rows (f there.0) rows (texts_ties (f there.0) rows ∙ ap is_eq alike) in
      let at : slice_get (map f xs) i ≡ Some rows = get-map f xs i there.0 there.1 ∙ ap (λ l. Some l) same in
      once i (place_of (map f xs) rows) rows at (place_found (map f xs) i rows at)

  -- where these rows stand, that is the place
  pub known_at : (i : ℕ) (x : X) → slice_get xs i ≡ Some x → f x ≡ rows → StandOnce (map f xs) → i ≡ place_of (map f xs) rows
  known_at i x at same once =
      let there : slice_get (map f xs) i ≡ Some rows = get-map f xs i x at ∙ ap (λ l. Some l) same in
      once i (place_of (map f xs) rows) rows there (place_found (map f xs) i rows there)

  falls_nowhere : DoRise (map f xs) → IsNonDecreasingBy (λ x. ordering_index (slice_cmp nat_cmp (f x) rows)) xs
  falls_nowhere rises i j d less within =
      let lower : get_or (map f xs) i (f d) ≡ f (get_or xs i d) = get_or-map f xs i d (f d) (omega (arith, less, within)) in
      let upper : get_or (map f xs) j (f d) ≡ f (get_or xs j d) = get_or-map f xs j d (f d) within in
      let up : order_to rows (get_or (map f xs) i (f d)) ≤ order_to rows (get_or (map f xs) j (f d)) = rises rows i j (f d) less (omega (arith, within, length-map xs f)) in
      rw lower at (rw upper at up)

  -- where none is found between those that come before and those that come after, there is none
  pub found_nowhere : (i : ℕ) → (IsNonDecreasingBy (λ x. ordering_index (slice_cmp nat_cmp (f x) rows)) xs
      → IsPartitionPoint (λ x. slice_cmp nat_cmp (f x) rows ≡ Less) (λ x. slice_cmp nat_cmp (f x) rows ≡ Greater) xs i)
      → DoRise (map f xs) → 0 ≡ place_of (map f xs) rows
  found_nowhere i parted rises = nowhere (position (pointwise nat_eq rows) (map f xs)) refl
    where
      nowhere : (o : Option ℕ) → position (pointwise nat_eq rows) (map f xs) ≡ o → 0 ≡ unwrap_or o 0
      nowhere None is = refl
      nowhere (Some k) is =
          let here = position-Some (pointwise nat_eq rows) (map f xs) k [] is in
          let within : k < length xs = omega (arith, here.0, length-map xs f) in
          let there = member_at xs k within in
          let read : get_or xs k there.0 ≡ there.0 = get_or_from_slice_get xs k there.0 there.0 there.1 in
          let same : rows ≡ f there.0 = same_rows rows (get_or (map f xs) k []) here.1 ∙ get_or_from_slice_get (map f xs) k (f there.0) [] (get-map f xs k there.0 there.1) in
          let equal : slice_cmp nat_cmp (f (get_or xs k there.0)) rows ≡ Equal =
          ap (λ l. slice_cmp nat_cmp l rows) (ap f read ∙ sym same) ∙ tied_itself nat_list_cmp_total rows in
          let point = parted (falls_nowhere rises) in
          elim (cases_lt k i) [
            | inl before ↦ let less : slice_cmp nat_cmp (f (get_or xs k there.0)) rows ≡ Less = point.0 k there.0 (omega arith) before in absurd (let both : Less ≡ Equal = sym less ∙ equal in cc)
            | inr after ↦ let greater : slice_cmp nat_cmp (f (get_or xs k there.0)) rows ≡ Greater = point.1 k there.0 after within in absurd (let both : Greater ≡ Equal = sym greater ∙ equal in cc)
          ]
