-- There is one list of answers, and no answer stands twice in it.
use Rattle.std.proofs.Common.{ℕ, zero, suc, List, [], ◌∷◌, ◌++◌, Some, ◌≡◌, ◌<◌, ◌+◌, ◌⊎◌, inl, inr, map, refl, sym, ap, subst, ◌∙◌, arith}
use Rattle.std.specs.Prelude.{slice_get}
use Rattle.std.specs.List.{flat_map, range_with_len}
use Rattle.cq_theory.specs.Tables.{Tables}
use Rattle.cq_query.specs.QueryData.{QueryData as Query}
use Rattle.cq_query.specs.Answers.{tuples, AreFiltered, none, kept, left_out, MeetsTests, AreAnswers, variable_counts}
use Rattle.cq_query.proofs.Answering.{IsIn, first, later, no_member, in_either, from_longer, filtered_out}

-- no member stands twice
abbrev pub AreOnce : {X : Type 0} → List X → Type 0
AreOnce [] = Unit {0}
AreOnce (x ∷ xs) = (IsIn x xs → ⊥) × AreOnce xs

pub one_place : {X : Type 0} (xs : List X) → AreOnce xs → (p q : ℕ) (x : X) → slice_get xs p ≡ Some x → slice_get xs q ≡ Some x → p ≡ q
one_place [] once p q x h k = cc
one_place (y ∷ xs) once zero zero x h k = refl
one_place (y ∷ xs) once zero (suc q) x h k = let same : y ≡ x = cc in absurd (once.0 (subst (λ z. IsIn z xs) (sym same) (q, k)))
one_place (y ∷ xs) once (suc p) zero x h k = let same : y ≡ x = cc in absurd (once.0 (subst (λ z. IsIn z xs) (sym same) (p, h)))
one_place (y ∷ xs) once (suc p) (suc q) x h k = ap suc (one_place xs once.1 p q x h k)

append_once : {X : Type 0} (xs ys : List X) → AreOnce xs → AreOnce ys → ((x : X) → IsIn x xs → IsIn x ys → ⊥) → AreOnce (xs ++ ys)
append_once [] ys left right apart = right
append_once (x ∷ xs) ys left right apart = (
  λ h. in_either ⊥ x xs ys h left.0 (apart x (first x xs)),
  append_once xs ys left.1 right (λ z i j. apart z (later z x xs i) j),
)

-- rows in front of which one more row is put
longer_once : (row : ℕ) (rest : List (List ℕ)) → AreOnce rest → AreOnce (map (λ rows. row ∷ rows) rest)
longer_once row [] once = tt
longer_once row (rows ∷ rest) once = (
  λ h. from_longer ⊥ row (row ∷ rows) rest h (λ tail is i. let same : rows ≡ tail = cc in once.0 (subst (λ r. IsIn r rest) (sym same) i)),
  longer_once row rest once.1,
)

module _ (rest : List (List ℕ)) (once : AreOnce rest) where
  abbrev longer : ℕ → List (List ℕ)
  longer row = map (λ rows. row ∷ rows) rest

  -- what begins with a later row is not among what begins with an earlier one
  begins_later : (s n row : ℕ) (rows : List ℕ) → row < s → IsIn (row ∷ rows) (flat_map longer (range_with_len s n)) → ⊥
  begins_later s zero row rows less h = no_member (row ∷ rows) h
  begins_later s (suc n) row rows less h = in_either ⊥ (row ∷ rows) (longer s) (flat_map longer (range_with_len (s + 1) n)) h
      (λ i. from_longer ⊥ s (row ∷ rows) rest i (λ tail is j. let same : row ≡ s = cc in absurd (omega (arith, same, less))))
      (λ i. begins_later (s + 1) n row rows (omega (arith, less)) i)

  all_once : (s n : ℕ) → AreOnce (flat_map longer (range_with_len s n))
  all_once s zero = tt
  all_once s (suc n) = append_once (longer s) (flat_map longer (range_with_len (s + 1) n)) (longer_once s rest once) (all_once (s + 1) n)
      (λ rows i j. from_longer ⊥ s rows rest i (λ tail is k. begins_later (s + 1) n s tail (omega arith) (subst (λ r. IsIn r (flat_map longer (range_with_len (s + 1) n))) is j)))

tuples_once : (counts : List ℕ) → AreOnce (tuples counts)
tuples_once [] = (λ h. no_member [] h, tt)
tuples_once (count ∷ counts) = all_once (tuples counts) (tuples_once counts) 0 count

module _ {X : Type 0} (P : X → Type 0) where
  filtered_once : {xs ys : List X} → AreFiltered P xs ys → AreOnce xs → AreOnce ys
  filtered_once none once = tt
  filtered_once (kept {x = x} {xs = xs} {ys = ys} p rest) once = (λ h. once.0 (filtered_out P rest x h).0, filtered_once rest once.1)
  filtered_once (left_out p rest) once = filtered_once rest once.1

  -- the ways in which a list with a first member can be filtered
  abbrev Kept : X → List X → List X → Type 0
  Kept x xs zs = (ys : List X) × P x × AreFiltered P xs ys × (zs ≡ x ∷ ys)

  abbrev LeftOut : X → List X → List X → Type 0
  LeftOut x xs zs = (P x → ⊥) × AreFiltered P xs zs

  either_way : (x : X) (xs l zs : List X) → l ≡ x ∷ xs → AreFiltered P l zs → Kept x xs zs ⊎ LeftOut x xs zs
  either_way x xs l zs is none = cc
  either_way x xs l zs is (kept {x = y} {xs = ys} {ys = ws} p rest) =
      let head : y ≡ x = cc in
      let tail : ys ≡ xs = cc in
      inl (ws, subst P head p, subst (λ l. AreFiltered P l ws) tail rest, ap (λ z. z ∷ ws) head)
  either_way x xs l zs is (left_out {x = y} {xs = ys} {ys = ws} p rest) =
      let head : y ≡ x = cc in
      let tail : ys ≡ xs = cc in
      inr ((λ q. p (subst P (sym head) q)), subst (λ l. AreFiltered P l ws) tail rest)

  no_way : (l zs : List X) → l ≡ [] → AreFiltered P l zs → zs ≡ []
  no_way l zs is none = refl
  no_way l zs is (kept p rest) = cc
  no_way l zs is (left_out p rest) = cc

  filtered_one : {xs ys : List X} → AreFiltered P xs ys → (zs : List X) → AreFiltered P xs zs → ys ≡ zs
  filtered_one none zs other = sym (no_way [] zs refl other)
  filtered_one (kept {x = x} {xs = xs} {ys = ys} p rest) zs other = elim (either_way x xs (x ∷ xs) zs refl other) [
    | inl way ↦ ap (λ l. x ∷ l) (filtered_one rest way.0 way.2) ∙ sym way.3
    | inr way ↦ absurd (way.0 p)
  ]
  filtered_one (left_out {x = x} {xs = xs} {ys = ys} p rest) zs other = elim (either_way x xs (x ∷ xs) zs refl other) [
    | inl way ↦ absurd (p way.1)
    | inr way ↦ filtered_one rest zs way.1
  ]

pub one_answers : (Q : Query) (M : Tables) (entity : ℕ) (answers others : List (List ℕ)) → AreAnswers Q M entity answers → AreAnswers Q M entity others → answers ≡ others
one_answers Q M entity answers others are are' = filtered_one (MeetsTests Q M entity) are others are'

pub answers_once : (Q : Query) (M : Tables) (entity : ℕ) (answers : List (List ℕ)) → AreAnswers Q M entity answers → AreOnce answers
answers_once Q M entity answers are = filtered_once (MeetsTests Q M entity) are (tuples_once (variable_counts Q M entity))
