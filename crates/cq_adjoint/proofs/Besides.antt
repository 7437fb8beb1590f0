-- Lists whose members beside one another are related.
use Rattle.std.proofs.Common.{ℕ, zero, suc, List, [], ◌∷◌, ◌++◌, Some, ◌≡◌, ◌<◌, ◌≤◌, ◌+◌, map, length, refl, ap, subst, arith}
use Rattle.std.specs.Prelude.{slice_get}
use Rattle.std.specs.List.{flat_map, range_with_len, enumerate_from}

pub data Beside {X Y : Type 0} (R : X → Y → Type 0) : List X → List Y → Type 0 where
  none : Beside R [] []
  more : {x : X} {y : Y} {xs : List X} {ys : List Y} → R x y → Beside R xs ys → Beside R (x ∷ xs) (y ∷ ys)

module _ {X Y : Type 0} (R : X → Y → Type 0) where
  pub beside_count : {xs : List X} {ys : List Y} → Beside R xs ys → length xs ≡ length ys
  beside_count none = refl
  beside_count (more r rest) = ap suc (beside_count rest)

  pub beside_at : {xs : List X} {ys : List Y} → Beside R xs ys → (n : ℕ) (x : X) (y : Y) → slice_get xs n ≡ Some x → slice_get ys n ≡ Some y → R x y
  beside_at none n x y left right = cc
  beside_at (more {x = x} {y = y} r rest) zero x' y' left right =
      let first : x ≡ x' = cc in
      let second : y ≡ y' = cc in
      subst (λ (z : X). R z y') first (subst (R x) second r)
  beside_at (more r rest) (suc n) x y left right = beside_at rest n x y left right

  pub beside_append : {xs : List X} {ys : List Y} {xs' : List X} {ys' : List Y} → Beside R xs ys → Beside R xs' ys' → Beside R (xs ++ xs') (ys ++ ys')
  beside_append none other = other
  beside_append (more r rest) other = more r (beside_append rest other)

  pub beside_ranges : (f : ℕ → List X) (g : ℕ → List Y) (s n : ℕ) → ((k : ℕ) → s ≤ k → k < s + n → Beside R (f k) (g k)) → Beside R (flat_map f (range_with_len s n)) (flat_map g (range_with_len s n))
  beside_ranges f g s zero each = none
  beside_ranges f g s (suc n) each = beside_append (each s (omega arith) (omega arith)) (beside_ranges f g (s + 1) n (λ k low high. each k (omega arith) (omega arith)))

  -- the members of a list, and what is made of their numbers
  pub beside_numbers : {Z : Type 0} (f : Z → X) (g : ℕ → Y) (zs : List Z) (s : ℕ) → ((k : ℕ) (z : Z) → slice_get zs k ≡ Some z → R (f z) (g (s + k))) → Beside R (map f zs) (map g (range_with_len s (length zs)))
  beside_numbers f g [] s each = none
  beside_numbers f g (z ∷ zs) s each =
      let here : s + 0 ≡ s = omega arith in
      more (subst (λ m. R (f z) (g m)) here (each zero z refl)) (beside_numbers f g zs (s + 1) (λ k w at.
      let there : s + suc k ≡ s + 1 + k = omega arith in
      subst (λ m. R (f w) (g m)) there (each (suc k) w at)))

  -- the members of a list, and what is made of them with their numbers
  pub beside_enumerated : {Z : Type 0} (f : Z → X) (g : ℕ × Z → Y) (zs : List Z) (s : ℕ) → ((k : ℕ) (z : Z) → slice_get zs k ≡ Some z → R (f z) (g (s + k, z))) → Beside R (map f zs) (map g (enumerate_from s zs))
  beside_enumerated f g [] s each = none
  beside_enumerated f g (z ∷ zs) s each =
      let here : s + 0 ≡ s = omega arith in
      more (subst (λ m. R (f z) (g (m, z))) here (each zero z refl)) (beside_enumerated f g zs (s + 1) (λ k w at.
      let there : s + suc k ≡ s + 1 + k = omega arith in
      subst (λ m. R (f w) (g (m, w))) there (each (suc k) w at)))
