-- Lists without the members that equal an earlier one, and lists of which some element is looked up by its place.
use Rattle.std.proofs.Common.{◌≡◌, ℕ, zero, suc, Bool, true, false, cond, List, [], ◌∷◌, ◌++◌, length, Some, ◌∙◌, ap, refl, arith, inl, inr, ◌||◌, not}
use Rattle.std.proofs.lemmas.Bool.{cases_Bool}
use Rattle.std.proofs.lemmas.List.{append-nil}
use Rattle.std.proofs.lemmas.List.Elements.{filter-append}
use Rattle.std.specs.Prelude.{slice_get, filter}
use Rattle.std.specs.List.{list_any}
use Rattle.cq_theory.specs.Listed.{firsts}

-- one more member, which equals an earlier one or not
pub firsts_push : {X : Type 0} (same : X → X → Bool) (xs : List X) (y : X) → firsts same (xs ++ y ∷ []) ≡ cond (list_any (λ x. same x y) xs) (firsts same xs) (firsts same xs ++ y ∷ [])
firsts_push same [] y = refl
firsts_push same (x ∷ xs) y = elim (cases_Bool (same x y)) as (λ _. firsts same (x ∷ (xs ++ y ∷ [])) ≡ cond (same x y || list_any (λ z. same z y) xs) (firsts same (x ∷ xs)) (firsts same (x ∷ xs) ++ y ∷ [])) [
  | inl e ↦ rw e (ap (λ zs. x ∷ filter (λ z. not (same x z)) zs) (firsts_push same xs y) ∙ ap (λ zs. x ∷ zs) (dropped (list_any (λ z. same z y) xs) e))
  | inr e ↦ rw e (ap (λ zs. x ∷ filter (λ z. not (same x z)) zs) (firsts_push same xs y) ∙ kept (list_any (λ z. same z y) xs) e)
] where
  dropped : (b : Bool) → same x y ≡ true → filter (λ z. not (same x z)) (cond b (firsts same xs) (firsts same xs ++ y ∷ [])) ≡ filter (λ z. not (same x z)) (firsts same xs)
  dropped true e = refl
  dropped false e = filter-append (λ z. not (same x z)) (firsts same xs) (y ∷ []) ∙ rw e (append-nil (filter (λ z. not (same x z)) (firsts same xs)))

  kept : (b : Bool) → same x y ≡ false → x ∷ filter (λ z. not (same x z)) (cond b (firsts same xs) (firsts same xs ++ y ∷ [])) ≡ cond b (firsts same (x ∷ xs)) (firsts same (x ∷ xs) ++ y ∷ [])
  kept true e = refl
  kept false e = ap (λ zs. x ∷ zs) (filter-append (λ z. not (same x z)) (firsts same xs) (y ∷ []) ∙ rw e refl)

pub slice_get-left : {X : Type 0} (xs ys : List X) (i : ℕ) (x : X) → slice_get xs i ≡ Some x → slice_get (xs ++ ys) i ≡ Some x
slice_get-left [] ys i x e = absurd (cc)
slice_get-left (z ∷ zs) ys zero x e = e
slice_get-left (z ∷ zs) ys (suc i) x e = slice_get-left zs ys i x e

pub slice_get-last : {X : Type 0} (xs : List X) (i : ℕ) (x : X) → length xs ≡ i → slice_get (xs ++ x ∷ []) i ≡ Some x
slice_get-last [] zero x e = refl
slice_get-last [] (suc i) x e = absurd (omega (arith, e))
slice_get-last (z ∷ zs) zero x e = absurd (omega (arith, e))
slice_get-last (z ∷ zs) (suc i) x e = slice_get-last zs i x (omega (arith, e))
