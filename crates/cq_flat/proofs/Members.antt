-- A number at some place of a list.
use Rattle.std.proofs.Common.{◌≡◌, ℕ, ◌+◌, ◌<◌, ◌≤◌, List, [], ◌∷◌, ◌++◌, length, get_or, take, ◌∙◌, refl, arith, eqb, ◌⊎◌, inl, inr, ⊎_elim}
use Rattle.std.proofs.lemmas.List.{get_or_default, take_more, take_all}
use Rattle.std.proofs.lemmas.List.Elements.{Contains-append_left, Contains-append_right, Contains-append_cases, Contains-push, Contains-push_cases}
use Rattle.std.proofs.lemmas.List.Filters.{dedup_is}
use Rattle.std.proofs.lemmas.List.Kept.{Contains-dedup_nat, Contains-from_dedup}
use Rattle.std.proofs.lemmas.List.Sorted.{Contains-permutation, IsPermutation-sym}
use Rattle.std.specs.Prelude.{◌↔◌, Contains}
use Rattle.std.specs.List.{dedup}
use Rattle.std.specs.List.Retain.{IsFiltered, DiffersFromLast}
use Rattle.std.specs.List.Sorted.{IsPermutation}
use Rattle.cq_flat.specs.Partition.{Has}

pub has : (xs : List ℕ) (x : ℕ) → Contains xs x → Has xs x
has xs x h = (h.0, h.1, get_or_default xs h.0 0 x h.1 ∙ h.2)

pub contained : (xs : List ℕ) (x : ℕ) → Has xs x → Contains xs x
contained xs x h = (h.0, h.1, get_or_default xs h.0 x 0 h.1 ∙ h.2)

pub has_none : (x : ℕ) → Has [] x → ⊥
has_none x h = absurd (omega (arith, h.1))

pub has_left : (xs ys : List ℕ) (x : ℕ) → Has xs x → Has (xs ++ ys) x
has_left xs ys x h = has (xs ++ ys) x (Contains-append_left xs ys x (contained xs x h))

pub has_right : (xs ys : List ℕ) (x : ℕ) → Has ys x → Has (xs ++ ys) x
has_right xs ys x h = has (xs ++ ys) x (Contains-append_right xs ys x (contained ys x h))

pub has_cases : (xs ys : List ℕ) (x : ℕ) → Has (xs ++ ys) x → Has xs x ⊎ Has ys x
has_cases xs ys x h = ⊎_elim (λ l. inl (has xs x l)) (λ r. inr (has ys x r)) (Contains-append_cases xs ys x (contained (xs ++ ys) x h))

pub has_last : (xs : List ℕ) (x : ℕ) → Has (xs ++ x ∷ []) x
has_last xs x = has (xs ++ x ∷ []) x (Contains-push xs x)

pub has_push : (xs : List ℕ) (y x : ℕ) → Has (xs ++ y ∷ []) x → Has xs x ⊎ (y ≡ x)
has_push xs y x h = ⊎_elim (λ l. inl (has xs x l)) inr (Contains-push_cases xs y x (contained (xs ++ y ∷ []) x h))

pub has_at : (xs : List ℕ) (i : ℕ) → i < length xs → Has xs (get_or xs i 0)
has_at xs i l = (i, l, refl)

-- the first i + 1 places
pub has_more : (xs : List ℕ) (i x : ℕ) → i < length xs → Has (take (i + 1) xs) x → Has (take i xs) x ⊎ (get_or xs i 0 ≡ x)
has_more xs i x l h = has_push (take i xs) (get_or xs i 0) x (rw (take_more xs i 0 l) at h)

pub has_earlier : (xs : List ℕ) (i x : ℕ) → i < length xs → Has (take i xs) x → Has (take (i + 1) xs) x
has_earlier xs i x l h = rw (take_more xs i 0 l) (has_left (take i xs) (get_or xs i 0 ∷ []) x h)

pub has_here : (xs : List ℕ) (i : ℕ) → i < length xs → Has (take (i + 1) xs) (get_or xs i 0)
has_here xs i l = rw (take_more xs i 0 l) (has_last (take i xs) (get_or xs i 0))

pub has_all : (xs : List ℕ) (i x : ℕ) → length xs ≤ i → Has xs x → Has (take i xs) x
has_all xs i x l h = rw (take_all i xs l) h

pub has_within : (xs : List ℕ) (i x : ℕ) → length xs ≤ i → Has (take i xs) x → Has xs x
has_within xs i x l h = rw (take_all i xs l) at h

pub has_head : (x : ℕ) (xs : List ℕ) → Has (x ∷ xs) x
has_head x xs = (0, omega arith, refl)

pub has_tail : (y x : ℕ) (xs : List ℕ) → Has xs x → Has (y ∷ xs) x
has_tail y x xs h = has_right (y ∷ []) xs x h

-- a list that is sorted, with each number kept once, has the same numbers
pub has_distinct : (xs sorted ys : List ℕ) → IsPermutation xs sorted → IsFiltered (DiffersFromLast eqb) [] sorted ys → (x : ℕ) → Has xs x ↔ Has ys x
has_distinct xs sorted ys p f x =
    let e : ys ≡ dedup eqb sorted = dedup_is eqb sorted ys f in (
      λ h. has ys x (rw e (Contains-dedup_nat sorted x (Contains-permutation xs sorted x p (contained xs x h)))),
      λ h. has xs x (Contains-permutation sorted xs x (IsPermutation-sym xs sorted p) (Contains-from_dedup eqb sorted x (rw e at (contained ys x h)))),
    )
