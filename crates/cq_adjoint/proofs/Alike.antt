-- Lists that are made alike are alike.
use Rattle.std.proofs.Common.{ℕ, zero, suc, List, [], ◌∷◌, ◌++◌, Some, ◌≡◌, ◌<◌, ◌≤◌, ◌+◌, map, refl, subst, arith}
use Rattle.std.specs.Prelude.{slice_get}
use Rattle.std.specs.List.{flat_map, range_with_len, enumerate_from}

-- of the members of a list with their numbers
pub same_enumerated : {X Y : Type 0} (f f' : ℕ × X → Y) (s : ℕ) (xs : List X) → ((n : ℕ) (x : X) → slice_get xs n ≡ Some x → f (s + n, x) ≡ f' (s + n, x))
    → map f (enumerate_from s xs) ≡ map f' (enumerate_from s xs)
same_enumerated f f' s [] h = refl
same_enumerated f f' s (x ∷ xs) h =
    let here : s + 0 ≡ s = omega arith in
    let first : f (s, x) ≡ f' (s, x) = subst (λ m. f (m, x) ≡ f' (m, x)) here (h 0 x refl) in
    let rest : map f (enumerate_from (s + 1) xs) ≡ map f' (enumerate_from (s + 1) xs) =
    same_enumerated f f' (s + 1) xs (λ n y at.
    let there : s + suc n ≡ s + 1 + n = omega arith in
    subst (λ m. f (m, y) ≡ f' (m, y)) there (h (suc n) y at)) in
    λ i. first i ∷ rest i

-- of numbers
pub same_numbers : {Y : Type 0} (f f' : ℕ → Y) (s n : ℕ) → ((k : ℕ) → k < s + n → f k ≡ f' k) → map f (range_with_len s n) ≡ map f' (range_with_len s n)
same_numbers f f' s zero h = refl
same_numbers f f' s (suc n) h =
    let first : f s ≡ f' s = h s (omega arith) in
    let rest : map f (range_with_len (s + 1) n) ≡ map f' (range_with_len (s + 1) n) = same_numbers f f' (s + 1) n (λ k less. h k (omega arith)) in
    λ i. first i ∷ rest i

-- behind one another, for numbers
pub same_flat : {Y : Type 0} (f f' : ℕ → List Y) (s n : ℕ) → ((k : ℕ) → k < s + n → f k ≡ f' k) → flat_map f (range_with_len s n) ≡ flat_map f' (range_with_len s n)
same_flat f f' s zero h = refl
same_flat f f' s (suc n) h =
    let first : f s ≡ f' s = h s (omega arith) in
    let rest : flat_map f (range_with_len (s + 1) n) ≡ flat_map f' (range_with_len (s + 1) n) = same_flat f f' (s + 1) n (λ k less. h k (omega arith)) in
    λ i. first i ++ rest i
