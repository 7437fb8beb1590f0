-- What holds of every member of a list that is made of lists.
use Rattle.std.proofs.Common.{ℕ, zero, suc, Bool, true, List, [], ◌∷◌, ◌++◌, Option, Some, None, ◌≡◌, ◌<◌, ◌+◌, cond, map, filter, refl, sym, ap, subst, ◌∙◌, arith}
use Rattle.std.specs.Prelude.{slice_get, All}
use Rattle.std.specs.List.{flat_map, enumerate_from, filter_map, cons_option, range_with_len}
use Rattle.std.proofs.lemmas.List.Elements.{All-head, All-tail}

-- P holds of each member
abbrev pub Every : {X : Type 0} → (X → Type 0) → List X → Type 0
Every P [] = Unit {0}
Every P (x ∷ xs) = P x × Every P xs

module _ {X : Type 0} (P : X → Type 0) where
  pub Every-from_All : (xs : List X) → All P xs → Every P xs
  Every-from_All [] h = tt
  Every-from_All (x ∷ xs) h = (All-head P x xs h, Every-from_All xs (All-tail P x xs h))

  pub Every-at : (xs : List X) (n : ℕ) (x : X) → Every P xs → slice_get xs n ≡ Some x → P x
  Every-at [] n x h at = cc
  Every-at (y ∷ ys) zero x h at = let same : y ≡ x = cc in subst P same h.0
  Every-at (y ∷ ys) (suc n) x h at = Every-at ys n x h.1 at

  pub Every-from : (xs : List X) → ((n : ℕ) (x : X) → slice_get xs n ≡ Some x → P x) → Every P xs
  Every-from [] h = tt
  Every-from (x ∷ xs) h = (h 0 x refl, Every-from xs (λ n y at. h (suc n) y at))

  pub Every-append : (xs ys : List X) → Every P xs → Every P ys → Every P (xs ++ ys)
  Every-append [] ys h k = k
  Every-append (x ∷ xs) ys h k = (h.0, Every-append xs ys h.1 k)

  pub Every-parts : (xs ys : List X) → Every P (xs ++ ys) → Every P xs × Every P ys
  Every-parts [] ys h = (tt, h)
  Every-parts (x ∷ xs) ys h = let rest = Every-parts xs ys h.1 in ((h.0, rest.0), rest.1)

  module _ {Y : Type 0} (f : Y → List X) where
    pub Every-flat_map : (ys : List Y) → ((n : ℕ) (y : Y) → slice_get ys n ≡ Some y → Every P (f y)) → Every P (flat_map f ys)
    Every-flat_map [] h = tt
    Every-flat_map (y ∷ ys) h = Every-append (f y) (flat_map f ys) (h 0 y refl) (Every-flat_map ys (λ n z at. h (suc n) z at))

    pub Every-in_flat_map : (ys : List Y) (n : ℕ) (y : Y) → Every P (flat_map f ys) → slice_get ys n ≡ Some y → Every P (f y)
    Every-in_flat_map [] n y h at = cc
    Every-in_flat_map (z ∷ zs) zero y h at = let same : z ≡ y = cc in subst (λ (w : Y). Every P (f w)) same (Every-parts (f z) (flat_map f zs) h).0
    Every-in_flat_map (z ∷ zs) (suc n) y h at = Every-in_flat_map zs n y (Every-parts (f z) (flat_map f zs) h).1 at

  module _ {Y : Type 0} (f : Y → X) where
    pub Every-map : (ys : List Y) → ((n : ℕ) (y : Y) → slice_get ys n ≡ Some y → P (f y)) → Every P (map f ys)
    Every-map [] h = tt
    Every-map (y ∷ ys) h = (h 0 y refl, Every-map ys (λ n z at. h (suc n) z at))

    pub Every-unmap : (ys : List Y) → Every P (map f ys) → Every (λ y. P (f y)) ys
    Every-unmap [] h = tt
    Every-unmap (y ∷ ys) h = (h.0, Every-unmap ys h.1)

  module _ {Y : Type 0} (f : Y → Option X) where
    kept : (o : Option X) (xs : List X) → ((x : X) → o ≡ Some x → P x) → Every P xs → Every P (cons_option o xs)
    kept None xs h k = k
    kept (Some x) xs h k = (h x refl, k)

    pub Every-filter_map : (ys : List Y) → ((n : ℕ) (y : Y) (x : X) → slice_get ys n ≡ Some y → f y ≡ Some x → P x) → Every P (filter_map f ys)
    Every-filter_map [] h = tt
    Every-filter_map (y ∷ ys) h = kept (f y) (filter_map f ys) (λ x e. h 0 y x refl e) (Every-filter_map ys (λ n z x at e. h (suc n) z x at e))

    first_kept : (o : Option X) (x : X) (xs : List X) → o ≡ Some x → Every P (cons_option o xs) → P x
    first_kept None x xs e h = cc
    first_kept (Some y) x xs e h = let same : y ≡ x = cc in subst P same h.0

    rest_kept : (o : Option X) (xs : List X) → Every P (cons_option o xs) → Every P xs
    rest_kept None xs h = h
    rest_kept (Some y) xs h = h.1

    pub Every-in_filter_map : (ys : List Y) (n : ℕ) (y : Y) (x : X) → Every P (filter_map f ys) → slice_get ys n ≡ Some y → f y ≡ Some x → P x
    Every-in_filter_map [] n y x h at e = cc
    Every-in_filter_map (z ∷ zs) zero y x h at e = let same : z ≡ y = cc in first_kept (f z) x (filter_map f zs) (ap f same ∙ e) h
    Every-in_filter_map (z ∷ zs) (suc n) y x h at e = Every-in_filter_map zs n y x (rest_kept (f z) (filter_map f zs) h) at e

  module _ (p : X → Bool) where
    kept_by : (b : Bool) (x : X) (xs : List X) → b ≡ true → Every P (cond b (x ∷ xs) xs) → P x
    kept_by true x xs e h = h.0
    kept_by _ x xs e h = cc

    rest_by : (b : Bool) (x : X) (xs : List X) → Every P (cond b (x ∷ xs) xs) → Every P xs
    rest_by true x xs h = h.1
    rest_by _ x xs h = h

    pub Every-in_filter : (xs : List X) (n : ℕ) (x : X) → Every P (filter p xs) → slice_get xs n ≡ Some x → p x ≡ true → P x
    Every-in_filter [] n x h at e = cc
    Every-in_filter (y ∷ ys) zero x h at e = let same : y ≡ x = cc in subst P same (kept_by (p y) y (filter p ys) (ap p same ∙ e) h)
    Every-in_filter (y ∷ ys) (suc n) x h at e = Every-in_filter ys n x (rest_by (p y) y (filter p ys) h) at e

-- one claim follows from another at every member
pub Every-weaker : {X : Type 0} (P Q : X → Type 0) → ((x : X) → P x → Q x) → (xs : List X) → Every P xs → Every Q xs
Every-weaker P Q h [] k = tt
Every-weaker P Q h (x ∷ xs) k = (h x k.0, Every-weaker P Q h xs k.1)

pub Every-both : {X : Type 0} (P Q : X → Type 0) (xs : List X) → Every P xs → Every Q xs → Every (λ x. P x × Q x) xs
Every-both P Q [] h k = tt
Every-both P Q (x ∷ xs) h k = ((h.0, k.0), Every-both P Q xs h.1 k.1)

-- the members of a filtered list pass the test and stand in the list
pub from_filter : {X : Type 0} (p : X → Bool) (xs : List X) (n : ℕ) (x : X) → slice_get (filter p xs) n ≡ Some x → (m : ℕ) × (slice_get xs m ≡ Some x) × (p x ≡ true)
from_filter p [] n x h = cc
from_filter p (y ∷ ys) n x h = at_test (p y) refl n h (λ k at. from_filter p ys k x at)
  where
    at_test : (b : Bool) → p y ≡ b → (k : ℕ) → slice_get (cond b (y ∷ filter p ys) (filter p ys)) k ≡ Some x
        → ((j : ℕ) → slice_get (filter p ys) j ≡ Some x → (m : ℕ) × (slice_get ys m ≡ Some x) × (p x ≡ true)) → (m : ℕ) × (slice_get (y ∷ ys) m ≡ Some x) × (p x ≡ true)
    at_test true e zero at next = let same : y ≡ x = cc in (0, ap (λ z. Some z) same, ap p (sym same) ∙ e)
    at_test true e (suc k) at next = let rest = next k at in (suc rest.0, rest.1, rest.2)
    at_test _ e k at next = let rest = next k at in (suc rest.0, rest.1, rest.2)

-- a member with its number
pub enumerated : {X : Type 0} (s : ℕ) (xs : List X) (n : ℕ) (x : X) → slice_get xs n ≡ Some x → slice_get (enumerate_from s xs) n ≡ Some (s + n, x)
enumerated s [] n x h = cc
enumerated s (y ∷ ys) zero x h = let same : y ≡ x = cc in let here : s ≡ s + 0 = omega arith in λ i. Some (here i, same i)
enumerated s (y ∷ ys) (suc n) x h = let there : s + 1 + n ≡ s + suc n = omega arith in enumerated (s + 1) ys n x h ∙ ap (λ m. Some (m, x)) there

pub from_enumerated : {X : Type 0} (s : ℕ) (xs : List X) (n : ℕ) (y : ℕ × X) → slice_get (enumerate_from s xs) n ≡ Some y → (slice_get xs n ≡ Some y.1) × (y.0 ≡ s + n)
from_enumerated s [] n y h = cc
from_enumerated s (x ∷ xs) zero y h =
    let same : (s, x) ≡ y = cc in
    let here : s ≡ s + 0 = omega arith in
    (ap (λ (z : ℕ × _). Some z.1) same, ap (λ (z : ℕ × _). z.0) (sym same) ∙ here)
from_enumerated s (x ∷ xs) (suc n) y h =
    let rest = from_enumerated (s + 1) xs n y h in
    let there : s + 1 + n ≡ s + suc n = omega arith in
    (rest.0, rest.1 ∙ there)

pub at_range : (s n k : ℕ) → k < n → slice_get (range_with_len s n) k ≡ Some (s + k)
at_range s zero k h = absurd (omega arith)
at_range s (suc n) zero h = let here : s ≡ s + 0 = omega arith in ap (λ m. Some m) here
at_range s (suc n) (suc k) h = let there : s + 1 + k ≡ s + suc k = omega arith in at_range (s + 1) n k (omega arith) ∙ ap (λ m. Some m) there
