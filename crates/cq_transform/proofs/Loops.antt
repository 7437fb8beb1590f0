-- Claims on the numbers below a count, where the count grows.
use Rattle.std.proofs.Common.{ℕ, zero, suc, Bool, true, false, List, [], ◌∷◌, ◌++◌, Some, ◌≡◌, ◌<◌, ◌≤◌, ◌+◌, ◌⊎◌, inl, inr, cond, map, take, drop, get_or, length, refl, sym, ap, subst, ◌∙◌, arith}
use Rattle.std.specs.Prelude.{slice_get}
use Rattle.std.proofs.lemmas.Bool.{cases_order}
use Rattle.std.specs.Prelude.{◌||◌}
use Rattle.std.specs.List.{list_any}
use Rattle.std.proofs.lemmas.List.{take_more, map-append, at_drop_more, at_drop_all}
use Rattle.std.proofs.lemmas.Option.{slice_get-get_or}

-- what holds below k, and of k, holds below k + 1
pub more_below : (P Q : ℕ → Type 0) (k : ℕ) → ((n : ℕ) → P n → Q n) → ((n : ℕ) → n < k → P n) → Q k → (n : ℕ) → n < k + 1 → Q n
more_below P Q k weaker before here n h = elim (cases_order n k) [
  | inl same ↦ subst Q (sym same) here
  | inr other ↦ elim other [
    | inl less ↦ weaker n (before n less)
    | inr more ↦ absurd (omega (arith, h, more))
  ]
]

pub member_at : {X : Type 0} (xs : List X) (n : ℕ) → n < length xs → (x : X) × (slice_get xs n ≡ Some x)
member_at [] n h = absurd (omega arith)
member_at (x ∷ xs) n h = (get_or (x ∷ xs) n x, slice_get-get_or (x ∷ xs) n x h)

-- the member of a list that a loop reads
pub member_read : {X : Type 0} (xs : List X) (k : ℕ) (x y : X) → k < length xs → x ≡ get_or xs k x → slice_get xs k ≡ Some y → x ≡ y
member_read xs k x y within is at =
    let both : Some (get_or xs k x) ≡ Some y = sym (slice_get-get_or xs k x within) ∙ at in
    let same : get_or xs k x ≡ y = cc in
    is ∙ same

pub read_at : {X : Type 0} (xs : List X) (k : ℕ) (x : X) → k < length xs → x ≡ get_or xs k x → slice_get xs k ≡ Some x
read_at xs k x within is = slice_get-get_or xs k x within ∙ ap (λ y. Some y) (sym is)

-- fewer are open, or none were found and the passes end
pub fewer_left : (changed : Bool) (old new : ℕ) → (changed ≡ true → new < old) → (changed ≡ false → new ≡ old) → new + cond changed 1 0 < old + 1
fewer_left true old new fewer same = let less : new < old = fewer refl in omega arith
fewer_left false old new fewer same = let equal : new ≡ old = same refl in omega (arith, equal)

-- a test of what members give, which none has passed so far
module _ {X Y : Type 0} (f : X → Y) (p : Y → Bool) (xs : List X) (i : ℕ) where
  any_step : (x : X) → i < length xs → x ≡ get_or xs i x → list_any p (map f (drop i xs)) ≡ (p (f x) || list_any p (map f (drop (i + 1) xs)))
  any_step x within is =
      at_drop_more (λ (l : List X). list_any p (map f l)) xs i x within ∙ ap (λ (y : X). p (f y) || list_any p (map f (drop (i + 1) xs))) (sym is)

  pub any_passed : (x : X) (whole : Bool) → i < length xs → x ≡ get_or xs i x → list_any p (map f (drop i xs)) ≡ whole → p (f x) ≡ false → list_any p (map f (drop (i + 1) xs)) ≡ whole
  any_passed x whole within is so_far fits = sym (any_step x within is ∙ ap (λ (b : Bool). b || list_any p (map f (drop (i + 1) xs))) fits) ∙ so_far

  pub any_refused : {E : Type 0} {memory large : E} (x : X) (whole : Bool) → i < length xs → x ≡ get_or xs i x → list_any p (map f (drop i xs)) ≡ whole
      → (r : E) → (r ≡ memory) ⊎ ((r ≡ large) × (p (f x) ≡ true)) → (r ≡ memory) ⊎ ((r ≡ large) × (whole ≡ true))
  any_refused x whole within is so_far r (inl wanting) = inl wanting
  any_refused x whole within is so_far r (inr long) =
      inr (long.0, sym so_far ∙ any_step x within is ∙ ap (λ (b : Bool). b || list_any p (map f (drop (i + 1) xs))) long.1)

  pub any_none : (whole : Bool) → length xs ≤ i → list_any p (map f (drop i xs)) ≡ whole → whole ≡ false
  any_none whole end so_far = sym so_far ∙ at_drop_all (λ (l : List X). list_any p (map f l)) xs i end
