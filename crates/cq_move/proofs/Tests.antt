-- Tests of lists that grow.
use Rattle.std.proofs.Common.{ℕ, zero, suc, Bool, true, false, List, [], ◌∷◌, ◌++◌, Some, ◌≡◌, ◌||◌, ◌+◌, map, refl, sym, ap, ◌∙◌, arith}
use Rattle.std.specs.Prelude.{slice_get}
use Rattle.std.specs.List.{list_any}
use Rattle.std.proofs.lemmas.List.FromFn.{map-range_with_len_more}
use Rattle.cq_theory.specs.Canonical.{below}

-- one number more
pub map_below_more : {X : Type 0} (f : ℕ → X) (n : ℕ) → map f (below (n + 1)) ≡ map f (below n) ++ f n ∷ []
map_below_more f n = map-range_with_len_more f 0 n n (omega arith)

or_true : (b : Bool) → (b || true) ≡ true
or_true true = refl
or_true _ = refl

pub neither : (a b : Bool) → (a || b) ≡ false → (a ≡ false) × (b ≡ false)
neither true b h = cc
neither false b h = (refl, h)

module _ {X : Type 0} (p : X → Bool) where
  -- no member passes, and the new one doesn't
  pub none_more : (xs : List X) (x : X) → list_any p xs ≡ false → p x ≡ false → list_any p (xs ++ x ∷ []) ≡ false
  none_more [] x h e = ap (λ b. b || false) e
  none_more (y ∷ xs) x h e =
      let parts = neither (p y) (list_any p xs) h in
      ap (λ b. b || list_any p (xs ++ x ∷ [])) parts.0 ∙ none_more xs x parts.1 e

  -- a member passes
  pub some_at : (xs : List X) (n : ℕ) (x : X) → slice_get xs n ≡ Some x → p x ≡ true → list_any p xs ≡ true
  some_at [] n x h e = cc
  some_at (y ∷ xs) zero x h e = let same : y ≡ x = cc in ap (λ b. b || list_any p xs) (ap p same ∙ e)
  some_at (y ∷ xs) (suc n) x h e = ap (λ b. p y || b) (some_at xs n x h e) ∙ or_true (p y)

  -- no member passes: none at any place
  pub none_at : (xs : List X) (n : ℕ) (x : X) → slice_get xs n ≡ Some x → list_any p xs ≡ false → p x ≡ false
  none_at [] n x h e = cc
  none_at (y ∷ xs) zero x h e = let same : y ≡ x = cc in ap p (sym same) ∙ (neither (p y) (list_any p xs) e).0
  none_at (y ∷ xs) (suc n) x h e = none_at xs n x h (neither (p y) (list_any p xs) e).1
