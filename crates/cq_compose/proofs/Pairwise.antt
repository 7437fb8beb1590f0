-- Lists whose members go together, place by place, and lists of which no member passes a test.
use Rattle.std.proofs.Common.{ℕ, zero, suc, Bool, false, List, [], ◌∷◌, ◌++◌, Some, ◌≡◌, ◌<◌, ◌+◌, ◌||◌, length, refl, sym, ap, subst, ◌∙◌, arith}
use Rattle.std.specs.Prelude.{slice_get}
use Rattle.std.specs.List.{flat_map, list_any}
use Rattle.cq_theory.proofs.Faults.{neither}

-- no member of a list of which none passes a test passes it
pub none_passes : {X : Type 0} (p : X → Bool) (xs : List X) → list_any p xs ≡ false → (n : ℕ) (x : X) → slice_get xs n ≡ Some x → p x ≡ false
none_passes p [] h n x at = cc
none_passes p (y ∷ ys) h zero x at = let same : y ≡ x = cc in ap p (sym same) ∙ (neither (p y) (list_any p ys) h).0
none_passes p (y ∷ ys) h (suc n) x at = none_passes p ys (neither (p y) (list_any p ys) h).1 n x at

pub member_there : {X : Type 0} (xs : List X) (n : ℕ) → n < length xs → (x : X) × (slice_get xs n ≡ Some x)
member_there [] n h = absurd (omega arith)
member_there (x ∷ xs) zero h = (x, refl)
member_there (x ∷ xs) (suc n) h = member_there xs n (omega arith)

-- R holds of the members at each place, and the lists are of one length
pub data Pairwise {X Y : Type 0} (R : X → Y → Type 0) : List X → List Y → Type 0 where
  done : Pairwise R [] []
  also : {x : X} {y : Y} {xs : List X} {ys : List Y} → R x y → Pairwise R xs ys → Pairwise R (x ∷ xs) (y ∷ ys)

module _ {X Y : Type 0} (R : X → Y → Type 0) where
  pub pair_from : (xs : List X) (ys : List Y) → length xs ≡ length ys → ((n : ℕ) (x : X) (y : Y) → slice_get xs n ≡ Some x → slice_get ys n ≡ Some y → R x y) → Pairwise R xs ys
  pair_from [] [] same h = done
  pair_from [] (y ∷ ys) same h = absurd (omega arith)
  pair_from (x ∷ xs) [] same h = absurd (omega arith)
  pair_from (x ∷ xs) (y ∷ ys) same h = also (h 0 x y refl refl) (pair_from xs ys (omega arith) (λ n z w at at'. h (suc n) z w at at'))

  pub pair_length : (xs : List X) (ys : List Y) → Pairwise R xs ys → length xs ≡ length ys
  pair_length _ _ done = refl
  pair_length _ _ (also {xs = xs} {ys = ys} r rest) = ap suc (pair_length xs ys rest)

  pub pair_at : (xs : List X) (ys : List Y) → Pairwise R xs ys → (n : ℕ) (x : X) (y : Y) → slice_get xs n ≡ Some x → slice_get ys n ≡ Some y → R x y
  pair_at _ _ done n x y at at' = cc
  pair_at _ _ (also {x = z} {y = w} {xs = xs} {ys = ys} r rest) zero x y at at' =
      let one : z ≡ x = cc in
      let other : w ≡ y = cc in
      subst (λ (a : X). R a y) one (subst (λ (b : Y). R z b) other r)
  pair_at _ _ (also {x = z} {y = w} {xs = xs} {ys = ys} r rest) (suc n) x y at at' = pair_at xs ys rest n x y at at'

  pub pair_append : (xs zs : List X) (ys ws : List Y) → Pairwise R xs ys → Pairwise R zs ws → Pairwise R (xs ++ zs) (ys ++ ws)
  pair_append _ zs _ ws done rest = rest
  pair_append _ zs _ ws (also {xs = xs} {ys = ys} r more) rest = also r (pair_append xs zs ys ws more rest)

  module _ {A B : Type 0} (f : A → List X) (g : B → List Y) where
    pub pair_flat : (xs : List A) (bs : List B) → length xs ≡ length bs → ((n : ℕ) (a : A) (b : B) → slice_get xs n ≡ Some a → slice_get bs n ≡ Some b → Pairwise R (f a) (g b))
        → Pairwise R (flat_map f xs) (flat_map g bs)
    pair_flat [] [] same h = done
    pair_flat [] (b ∷ bs) same h = absurd (omega arith)
    pair_flat (a ∷ xs) [] same h = absurd (omega arith)
    pair_flat (a ∷ xs) (b ∷ bs) same h =
        pair_append (f a) (flat_map f xs) (g b) (flat_map g bs) (h 0 a b refl refl) (pair_flat xs bs (omega arith) (λ n c d at at'. h (suc n) c d at at'))
