-- Lists in which nothing is noted, or one thing more.
use Rattle.std.proofs.Common.{ℕ, zero, suc, List, [], ◌∷◌, ◌++◌, Option, Some, None, ◌≡◌, ◌⊎◌, inl, inr, set}
use Rattle.std.specs.Prelude.{slice_get}
use Rattle.cq_eval.proofs.Firsts.{set_at}

pub none_first : {X : Type 0} (k : ℕ) (x : X) → slice_get [] k ≡ Some (Some x) → ⊥
none_first k x at = cc

pub none_more : {X : Type 0} (xs : List (Option X)) → ((k : ℕ) (x : X) → slice_get xs k ≡ Some (Some x) → ⊥) → (k : ℕ) (x : X) → slice_get (xs ++ None ∷ []) k ≡ Some (Some x) → ⊥
none_more [] none zero x at = let inner : None ≡ Some x = cc in cc
none_more [] none (suc k) x at = cc
none_more (y ∷ xs) none zero x at = none zero x at
none_more (y ∷ xs) none (suc k) x at = none_more xs (λ j z there. none (suc j) z there) k x at

pub noted_at : {X : Type 0} (xs : List (Option X)) (i k : ℕ) (x y : X) → slice_get (set xs i (Some x)) k ≡ Some (Some y) → (slice_get xs k ≡ Some (Some y)) ⊎ ((k ≡ i) × (y ≡ x))
noted_at xs i k x y at = elim (set_at xs i k (Some x) (Some y) at) [
  | inl old ↦ inl old
  | inr new ↦ inr (new.0, (let both : Some y ≡ Some x = new.1 in cc))
]
