-- Places of lists.
use Rattle.std.proofs.Common.{ℕ, zero, suc, List, [], ◌∷◌, ◌++◌, Some, ◌≡◌, ◌<◌, ◌⊎◌, map, length, get_or, refl, sym, ap, ◌∙◌, arith, inl, inr}
use Rattle.std.specs.Prelude.{slice_get}
use Rattle.std.proofs.lemmas.Option.{slice_get-get_or}
use Rattle.cq_check.specs.Adding.{Extends}

-- what stands at a place within a list
pub at_place : {X : Type 0} (xs : List X) (n : ℕ) → n < length xs → (x : X) × (slice_get xs n ≡ Some x)
at_place [] n h = absurd (omega arith)
at_place (x ∷ xs) zero h = (x, refl)
at_place (x ∷ xs) (suc n) h = at_place xs n (omega arith)

pub extends_append : {X : Type 0} (xs ys : List X) → Extends xs (xs ++ ys)
extends_append [] ys n x h = cc
extends_append (y ∷ xs) ys zero x h = h
extends_append (y ∷ xs) ys (suc n) x h = extends_append xs ys n x h

pub extends_as : {X : Type 0} (xs ys zs : List X) → zs ≡ xs ++ ys → Extends xs zs
extends_as xs ys zs e n x h = ap (λ l. slice_get l n) e ∙ extends_append xs ys n x h

pub last_at : {X : Type 0} (xs : List X) (y : X) → slice_get (xs ++ y ∷ []) (length xs) ≡ Some y
last_at [] y = refl
last_at (x ∷ xs) y = last_at xs y

pub one_more : {X : Type 0} (xs : List X) (y : X) (n : ℕ) (x : X) → slice_get (xs ++ y ∷ []) n ≡ Some x → (slice_get xs n ≡ Some x) ⊎ ((n ≡ length xs) × (y ≡ x))
one_more [] y zero x h = let same : y ≡ x = cc in inr (refl, same)
one_more [] y (suc n) x h = cc
one_more (z ∷ zs) y zero x h = inl h
one_more (z ∷ zs) y (suc n) x h = elim (one_more zs y n x h) [
  | inl before ↦ inl before
  | inr last ↦ inr (omega (arith, last.0), last.1)
]

-- what stood at a place of an extended list is what stands there
pub one_at : {X : Type 0} (xs : List X) (n : ℕ) (x y : X) → slice_get xs n ≡ Some x → slice_get xs n ≡ Some y → x ≡ y
one_at xs n x y h h' = let same : Some x ≡ Some y = sym h ∙ h' in cc

pub mapped_at : {X Y : Type 0} (f : X → Y) (xs : List X) (n : ℕ) (y : Y) → slice_get (map f xs) n ≡ Some y → (x : X) × (slice_get xs n ≡ Some x) × (f x ≡ y)
mapped_at f [] n y h = cc
mapped_at f (x ∷ xs) zero y h = (x, refl, cc)
mapped_at f (x ∷ xs) (suc n) y h = mapped_at f xs n y h

-- what is made of the member at a place
pub image_at : {X Y : Type 0} (f : X → Y) (xs : List X) (n : ℕ) (x : X) → slice_get xs n ≡ Some x → slice_get (map f xs) n ≡ Some (f x)
image_at f [] n x h = cc
image_at f (y ∷ xs) zero x h = let same : y ≡ x = cc in ap (λ z. Some (f z)) same
image_at f (y ∷ xs) (suc n) x h = image_at f xs n x h

-- the member that a loop has at a place
pub item_at : {X : Type 0} (xs items : List X) (i : ℕ) (x : X) → items ≡ xs → i < length items → x ≡ get_or items i x → slice_get xs i ≡ Some x
item_at xs items i x same within is = ap (λ l. slice_get l i) (sym same) ∙ slice_get-get_or items i x within ∙ ap (λ y. Some y) (sym is)
