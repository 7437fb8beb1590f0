-- What holds of all members of a list, and lists that agree at each place.
use Rattle.std.proofs.Common.{ℕ, zero, suc, List, [], ◌∷◌, Some, ◌≡◌, ◌<◌, ◌+◌, map, length, refl, sym, ap, subst, ◌∙◌, arith}
use Rattle.std.specs.Prelude.{slice_get}
use Rattle.std.specs.List.{range_with_len}
use Rattle.cq_theory.specs.Canonical.{below}
use Rattle.cq_theory.proofs.Faults.{made_of}
use Rattle.cq_query.proofs.SortedDuties.{All_in}

-- all members of a list that is made of one
pub all_mapped : {X Y : Type 0} (R : Y → Type 0) (f : X → Y) (xs : List X) → All_in (λ x. R (f x)) xs → All_in R (map f xs)
all_mapped R f xs h n y is =
    let made = made_of f xs n y is in
    subst R (sym made.2) (h n made.0 made.1)

pub one_member : {X : Type 0} (R : X → Type 0) (x : X) → R x → All_in R (x ∷ [])
one_member R x h zero y is = let same : x ≡ y = cc in subst R same h
one_member R x h (suc n) y is = cc

-- functions that agree on the numbers in range
pub same_below : {X : Type 0} (f g : ℕ → X) (s n : ℕ) → ((k : ℕ) → k < s + n → f k ≡ g k) → map f (range_with_len s n) ≡ map g (range_with_len s n)
same_below f g s zero h = refl
same_below f g s (suc n) h =
    let inside : s < s + suc n = omega arith in
    let first : f s ≡ g s = h s inside in
    let rest = same_below f g (s + 1) n (λ k within. h k (omega arith)) in
    λ i. first i ∷ rest i

-- lists with the same members at the same places
pub same_lists : {X : Type 0} (xs ys : List X) → length xs ≡ length ys → ((n : ℕ) (x y : X) → slice_get xs n ≡ Some x → slice_get ys n ≡ Some y → x ≡ y) → xs ≡ ys
same_lists [] [] same h = refl
same_lists [] (y ∷ ys) same h = absurd (omega arith)
same_lists (x ∷ xs) [] same h = absurd (omega arith)
same_lists (x ∷ xs) (y ∷ ys) same h =
    let first : x ≡ y = h 0 x y refl refl in
    let rest : xs ≡ ys = same_lists xs ys (omega arith) (λ n a b is is'. h (suc n) a b is is') in
    λ i. first i ∷ rest i

-- a list of which each member is given by its place
by_place : {X : Type 0} (f : ℕ → X) (s : ℕ) (xs : List X) → ((n : ℕ) (x : X) → slice_get xs n ≡ Some x → f (s + n) ≡ x) → map f (range_with_len s (length xs)) ≡ xs
by_place f s [] h = refl
by_place f s (x ∷ xs) h =
    let here : s ≡ s + 0 = omega arith in
    let first : f s ≡ x = ap f here ∙ h 0 x refl in
    let rest : map f (range_with_len (s + 1) (length xs)) ≡ xs = by_place f (s + 1) xs (λ n y at.
    let there : s + 1 + n ≡ s + suc n = omega arith in ap f there ∙ h (suc n) y at) in
    λ i. first i ∷ rest i

pub all_by_place : {X : Type 0} (f : ℕ → X) (count : ℕ) (xs : List X) → length xs ≡ count → ((n : ℕ) (x : X) → slice_get xs n ≡ Some x → f n ≡ x) → map f (below count) ≡ xs
all_by_place f count xs same h = ap (λ n. map f (below n)) (sym same) ∙ by_place f 0 xs (λ n x at. let here : 0 + n ≡ n = omega arith in ap f here ∙ h n x at)
