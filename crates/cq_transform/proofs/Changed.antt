-- Lists of found values in which one more is put.
use Rattle.std.proofs.Common.{ℕ, zero, suc, List, [], ◌∷◌, Some, None, ◌≡◌, ◌<◌, ◌+◌, ◌⊎◌, inl, inr, length, refl, ap, arith}
use Rattle.std.specs.Prelude.{slice_get, slice_set}
use Rattle.cq_theory.specs.declared.value.Value.{Value}
use Rattle.cq_transform.specs.Nulls.{Found, count_open}

pub get-set : {X : Type 0} (xs : List X) (n : ℕ) (x y : X) → slice_get xs n ≡ Some x → slice_get (slice_set xs n y) n ≡ Some y
get-set [] n x y h = cc
get-set (z ∷ zs) zero x y h = refl
get-set (z ∷ zs) (suc n) x y h = get-set zs n x y h

pub size-set : {X : Type 0} (xs : List X) (n : ℕ) (y : X) → length (slice_set xs n y) ≡ length xs
size-set [] n y = refl
size-set (z ∷ zs) zero y = refl
size-set (z ∷ zs) (suc n) y = ap suc (size-set zs n y)

-- what stands in the changed list is the new item, or it stood there before
pub from-set : {X : Type 0} (xs : List X) (n m : ℕ) (y z : X) → slice_get (slice_set xs n y) m ≡ Some z → ((n ≡ m) × (y ≡ z)) ⊎ (slice_get xs m ≡ Some z)
from-set [] n m y z h = inr h
from-set (x ∷ xs) zero zero y z h = let same : y ≡ z = cc in inl (refl, same)
from-set (x ∷ xs) zero (suc m) y z h = inr h
from-set (x ∷ xs) (suc n) zero y z h = inr h
from-set (x ∷ xs) (suc n) (suc m) y z h = elim (from-set xs n m y z h) [
  | inl e ↦ inl (ap suc e.0, e.1)
  | inr e ↦ inr e
]

-- what was found stays where the change is at an open place
pub kept-set : (old : Found) (n m : ℕ) (v w : Value) → slice_get old n ≡ Some None → slice_get old m ≡ Some (Some w) → slice_get (slice_set old n (Some v)) m ≡ Some (Some w)
kept-set [] n m v w empty h = cc
kept-set (x ∷ xs) zero zero v w empty h = cc
kept-set (x ∷ xs) zero (suc m) v w empty h = h
kept-set (x ∷ xs) (suc n) zero v w empty h = h
kept-set (x ∷ xs) (suc n) (suc m) v w empty h = kept-set xs n m v w empty h

pub fewer-set : (old : Found) (n : ℕ) (v : Value) → slice_get old n ≡ Some None → count_open (slice_set old n (Some v)) < count_open old
fewer-set [] n v h = cc
fewer-set (None ∷ xs) zero v h = omega arith
fewer-set (Some w ∷ xs) zero v h = cc
fewer-set (None ∷ xs) (suc n) v h = let rest : count_open (slice_set xs n (Some v)) < count_open xs = fewer-set xs n v h in omega arith
fewer-set (Some w ∷ xs) (suc n) v h = fewer-set xs n v h
