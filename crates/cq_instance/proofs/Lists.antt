-- Members of lists by their places, lists of consecutive numbers, and lists without repetition.
use Rattle.std.proofs.Common.{ℕ, zero, suc, false, not, List, [], ◌∷◌, ◌++◌, Option, Some, None, ◌≡◌, ◌<◌, ◌+◌, ◌*◌, ◌⊎◌, inl, inr, cond, map, filter, length, get_or, refl, sym, ap, subst, ◌∙◌, arith}
use Rattle.std.specs.Prelude.{slice_get, slice_set, nat_eq, All}
use Rattle.std.specs.List.{range_with_len, flat_map, filter_map, cons_option}
use Rattle.std.proofs.lemmas.Bool.{ne_eqb}
use Rattle.std.proofs.lemmas.Option.{get_or_from_slice_get, slice_get-get_or, slice_get_within}
use Rattle.std.proofs.lemmas.List.FromFn.{length-range_with_len}
use Rattle.cq_theory.specs.Listed.{firsts}

-- x stands at some place of xs
pub record IsIn {X : Type 0} (x : X) (xs : List X) : Type 0 where
  pub place : ℕ
  pub is : slice_get xs place ≡ Some x

pub get-map : {X Y : Type 0} (f : X → Y) (xs : List X) (n : ℕ) (x : X) → slice_get xs n ≡ Some x → slice_get (map f xs) n ≡ Some (f x)
get-map f [] n x h = cc
get-map f (y ∷ ys) zero x h = let same : y ≡ x = cc in ap (λ z. Some (f z)) same
get-map f (y ∷ ys) (suc n) x h = get-map f ys n x h

pub in_map : {X Y : Type 0} (f : X → Y) (x : X) (xs : List X) → IsIn x xs → IsIn (f x) (map f xs)
in_map f x xs h = record { place = h.place; is = get-map f xs h.place x h.is }

pub get-append : {X : Type 0} (xs ys : List X) (n : ℕ) (y : X) → slice_get ys n ≡ Some y → slice_get (xs ++ ys) (length xs + n) ≡ Some y
get-append [] ys n y h = let here : 0 + n ≡ n = omega arith in ap (slice_get ys) here ∙ h
get-append (x ∷ xs) ys n y h = let there : suc (length xs) + n ≡ suc (length xs + n) = omega arith in ap (slice_get (x ∷ (xs ++ ys))) there ∙ get-append xs ys n y h

pub get-append_front : {X : Type 0} (xs ys : List X) (n : ℕ) (x : X) → slice_get xs n ≡ Some x → slice_get (xs ++ ys) n ≡ Some x
get-append_front [] ys n x h = cc
get-append_front (y ∷ xs) ys zero x h = h
get-append_front (y ∷ xs) ys (suc n) x h = get-append_front xs ys n x h

-- what stands in an append stands in one of its parts
pub in_append : {X : Type 0} (P : Type 0) (xs ys : List X) (n : ℕ) (x : X) → slice_get (xs ++ ys) n ≡ Some x → (IsIn x xs → P) → (IsIn x ys → P) → P
in_append P [] ys n x h left right = right (record { place = n; is = h })
in_append P (y ∷ xs) ys zero x h left right = left (record { place = 0; is = h })
in_append P (y ∷ xs) ys (suc n) x h left right = in_append P xs ys n x h (λ (i : IsIn x xs). left (record { place = suc i.place; is = i.is })) right

-- a member of what f gives at a member
pub in_flat_map : {X Y : Type 0} (f : X → List Y) (x : X) (xs : List X) (y : Y) → IsIn x xs → IsIn y (f x) → IsIn y (flat_map f xs)
in_flat_map f x xs y h h' = go xs h.place h.is
  where
    go : (zs : List _) (n : ℕ) → slice_get zs n ≡ Some x → IsIn y (flat_map f zs)
    go [] n at = cc
    go (z ∷ zs) zero at =
        let same : x ≡ z = cc in
        let i : IsIn y (f z) = subst (λ (w : _). IsIn y (f w)) same h' in
        record { place = i.place; is = get-append_front (f z) (flat_map f zs) i.place y i.is }
    go (z ∷ zs) (suc n) at = let i = go zs n at in record { place = length (f z) + i.place; is = get-append (f z) (flat_map f zs) i.place y i.is }

-- the member of a list at which f gives y
pub record IsFrom {X Y : Type 0} (f : X → List Y) (xs : List X) (y : Y) : Type 0 where
  pub source : X
  pub in_source : IsIn source xs
  pub in_part : IsIn y (f source)

pub from_flat_map : {X Y : Type 0} (f : X → List Y) (xs : List X) (y : Y) → IsIn y (flat_map f xs) → IsFrom f xs y
from_flat_map f [] y h = let none : slice_get [] h.place ≡ Some y = h.is in cc
from_flat_map f (x ∷ xs) y h = in_append (IsFrom f (x ∷ xs) y) (f x) (flat_map f xs) h.place y h.is
    (λ (i : IsIn y (f x)). record { source = x; in_source = record { place = 0; is = refl }; in_part = i })
    (λ (i : IsIn y (flat_map f xs)). let rest = from_flat_map f xs y i in record { source = rest.source; in_source = record { place = suc rest.in_source.place; is = rest.in_source.is }; in_part = rest.in_part })

-- the member of a list whose image stands in the mapped list
pub record IsImage {X Y : Type 0} (f : X → Y) (xs : List X) (y : Y) : Type 0 where
  pub source : X
  pub in_source : IsIn source xs
  pub image : f source ≡ y

pub from_map : {X Y : Type 0} (f : X → Y) (xs : List X) (y : Y) → IsIn y (map f xs) → IsImage f xs y
from_map f xs y h = go xs h.place h.is
  where
    go : (zs : List _) (n : ℕ) → slice_get (map f zs) n ≡ Some y → IsImage f zs y
    go [] n at = cc
    go (z ∷ zs) zero at = record { source = z; in_source = record { place = 0; is = refl }; image = cc }
    go (z ∷ zs) (suc n) at = let i = go zs n at in record { source = i.source; in_source = record { place = suc i.in_source.place; is = i.in_source.is }; image = i.image }

-- maps that agree at each member
pub map_same : {X Y : Type 0} (f g : X → Y) (xs : List X) → ((x : X) → IsIn x xs → f x ≡ g x) → map f xs ≡ map g xs
map_same f g [] h = refl
map_same f g (x ∷ xs) h =
    let first : f x ≡ g x = h x (record { place = 0; is = refl }) in
    let rest : map f xs ≡ map g xs = map_same f g xs (λ y i. h y (record { place = suc i.place; is = i.is })) in
    λ i. first i ∷ rest i

pub flat_map_same : {X Y : Type 0} (f g : X → List Y) (xs : List X) → ((x : X) → IsIn x xs → f x ≡ g x) → flat_map f xs ≡ flat_map g xs
flat_map_same f g [] h = refl
flat_map_same f g (x ∷ xs) h =
    let first : f x ≡ g x = h x (record { place = 0; is = refl }) in
    let rest : flat_map f xs ≡ flat_map g xs = flat_map_same f g xs (λ y i. h y (record { place = suc i.place; is = i.is })) in
    λ i. first i ++ rest i

pub filter_map_same : {X Y : Type 0} (f : X → Option Y) (g : X → Y) (xs : List X) → ((x : X) → IsIn x xs → f x ≡ Some (g x)) → filter_map f xs ≡ map g xs
filter_map_same f g [] h = refl
filter_map_same f g (x ∷ xs) h =
    let first : f x ≡ Some (g x) = h x (record { place = 0; is = refl }) in
    let rest : filter_map f xs ≡ map g xs = filter_map_same f g xs (λ y i. h y (record { place = suc i.place; is = i.is })) in
    ap (λ o. cons_option o (filter_map f xs)) first ∙ ap (λ l. g x ∷ l) rest

pub filter_map_none : {X Y : Type 0} (f : X → Option Y) (xs : List X) → ((x : X) → IsIn x xs → f x ≡ None) → filter_map f xs ≡ []
filter_map_none f [] h = refl
filter_map_none f (x ∷ xs) h =
    let first : f x ≡ None = h x (record { place = 0; is = refl }) in
    ap (λ o. cons_option o (filter_map f xs)) first ∙ filter_map_none f xs (λ y i. h y (record { place = suc i.place; is = i.is }))

-- the numbers below n, at their places
pub get-range : (s n k : ℕ) → k < n → slice_get (range_with_len s n) k ≡ Some (s + k)
get-range s zero k h = absurd (omega arith)
get-range s (suc n) zero h = let here : s ≡ s + 0 = omega arith in ap (λ m. Some m) here
get-range s (suc n) (suc k) h = let there : s + 1 + k ≡ s + suc k = omega arith in get-range (s + 1) n k (omega arith) ∙ ap (λ m. Some m) there

pub range-append : (s m n : ℕ) → range_with_len s m ++ range_with_len (s + m) n ≡ range_with_len s (m + n)
range-append s zero n =
    let here : s + 0 ≡ s = omega arith in
    let none : 0 + n ≡ n = omega arith in
    ap (λ t. range_with_len t n) here ∙ ap (range_with_len s) (sym none)
range-append s (suc m) n =
    let there : s + suc m ≡ s + 1 + m = omega arith in
    let one : suc m + n ≡ suc (m + n) = omega arith in
    ap (λ t. s ∷ (range_with_len (s + 1) m ++ range_with_len t n)) there ∙ ap (λ l. s ∷ l) (range-append (s + 1) m n) ∙ ap (range_with_len s) (sym one)

-- n blocks of w consecutive numbers are n * w consecutive numbers
pub blocks : (s w r n : ℕ) → flat_map (λ row. range_with_len (s + row * w) w) (range_with_len r n) ≡ range_with_len (s + r * w) (n * w)
blocks s w r zero = let none : 0 * w ≡ 0 = omega arith in ap (range_with_len (s + r * w)) (sym none)
blocks s w r (suc n) =
    let next : s + (r + 1) * w ≡ s + r * w + w = omega arith in
    let all : w + n * w ≡ suc n * w = omega arith in
    ap (λ l. range_with_len (s + r * w) w ++ l) (blocks s w (r + 1) n ∙ ap (λ t. range_with_len t (n * w)) next)
    ∙ range-append (s + r * w) w (n * w) ∙ ap (range_with_len (s + r * w)) all

-- numbers from some number on have no lesser one among them
keep_range : (s t n : ℕ) → s < t → filter (λ y. not (nat_eq s y)) (range_with_len t n) ≡ range_with_len t n
keep_range s t zero h = refl
keep_range s t (suc n) h =
    let unlike : nat_eq s t ≡ false = ne_eqb s t (λ same. omega (arith, same)) in
    let rest : filter (λ y. not (nat_eq s y)) (range_with_len (t + 1) n) ≡ range_with_len (t + 1) n = keep_range s (t + 1) n (omega arith) in
    ap (λ b. cond (not b) (t ∷ filter (λ y. not (nat_eq s y)) (range_with_len (t + 1) n)) (filter (λ y. not (nat_eq s y)) (range_with_len (t + 1) n))) unlike ∙ ap (λ l. t ∷ l) rest

-- consecutive numbers are all different
pub firsts-range : (s n : ℕ) → firsts nat_eq (range_with_len s n) ≡ range_with_len s n
firsts-range s zero = refl
firsts-range s (suc n) = ap (λ l. s ∷ filter (λ y. not (nat_eq s y)) l) (firsts-range (s + 1) n) ∙ ap (λ l. s ∷ l) (keep_range s (s + 1) n (omega arith))

pub map-map : {X Y Z : Type 0} (f : Y → Z) (g : X → Y) (xs : List X) → map f (map g xs) ≡ map (λ x. f (g x)) xs
map-map f g [] = refl
map-map f g (x ∷ xs) = ap (λ l. f (g x) ∷ l) (map-map f g xs)

pub map-append : {X Y : Type 0} (f : X → Y) (xs ys : List X) → map f (xs ++ ys) ≡ map f xs ++ map f ys
map-append f [] ys = refl
map-append f (x ∷ xs) ys = ap (λ l. f x ∷ l) (map-append f xs ys)

pub map-flat_map : {X Y Z : Type 0} (f : Y → Z) (g : X → List Y) (xs : List X) → map f (flat_map g xs) ≡ flat_map (λ x. map f (g x)) xs
map-flat_map f g [] = refl
map-flat_map f g (x ∷ xs) = map-append f (g x) (flat_map g xs) ∙ ap (λ l. map f (g x) ++ l) (map-flat_map f g xs)

pub map-range_shift : (s t n : ℕ) → map (λ k. s + k) (range_with_len t n) ≡ range_with_len (s + t) n
map-range_shift s t zero = refl
map-range_shift s t (suc n) =
    let there : s + (t + 1) ≡ s + t + 1 = omega arith in
    ap (λ l. (s + t) ∷ l) (map-range_shift s (t + 1) n ∙ ap (λ u. range_with_len u n) there)

-- a number among those below n is below n, and stands at its own place
pub in_range : (n k : ℕ) → IsIn k (range_with_len 0 n) → k < n
in_range n k h =
    let inside : h.place < n = omega (arith, slice_get_within (range_with_len 0 n) h.place k h.is, length-range_with_len 0 n) in
    let here : Some (0 + h.place) ≡ Some k = sym (get-range 0 n h.place inside) ∙ h.is in
    let same : 0 + h.place ≡ k = cc in
    omega arith

pub in_range_from : (n k : ℕ) → k < n → IsIn k (range_with_len 0 n)
in_range_from n k h = let here : 0 + k ≡ k = omega arith in record { place = k; is = get-range 0 n k h ∙ ap (λ m. Some m) here }

-- what holds of each member
pub All_at : {X : Type 0} (P : X → Type 0) (xs : List X) (n : ℕ) (x : X) → All P xs → slice_get xs n ≡ Some x → P x
All_at P xs n x all h = subst P (get_or_from_slice_get xs n x x h) (all n x (slice_get_within xs n x h))

pub All_from : {X : Type 0} (P : X → Type 0) (xs : List X) → ((n : ℕ) (x : X) → slice_get xs n ≡ Some x → P x) → All P xs
All_from P xs h n d within = h n (get_or xs n d) (slice_get-get_or xs n d within)

-- where a member of an image comes from
pub get-map_from : {X Y : Type 0} (f : X → Y) (xs : List X) (n : ℕ) (y : Y) → slice_get (map f xs) n ≡ Some y → (x : X) × (slice_get xs n ≡ Some x) × (f x ≡ y)
get-map_from f [] n y h = cc
get-map_from f (x ∷ xs) zero y h = (x, refl, cc)
get-map_from f (x ∷ xs) (suc n) y h = get-map_from f xs n y h

-- a list in which one member is another one
pub get-set : {X : Type 0} (xs : List X) (n : ℕ) (x y : X) → slice_get xs n ≡ Some x → slice_get (slice_set xs n y) n ≡ Some y
get-set [] n x y h = cc
get-set (z ∷ zs) zero x y h = refl
get-set (z ∷ zs) (suc n) x y h = get-set zs n x y h

pub size-set : {X : Type 0} (xs : List X) (n : ℕ) (y : X) → length (slice_set xs n y) ≡ length xs
size-set [] n y = refl
size-set (z ∷ zs) zero y = refl
size-set (z ∷ zs) (suc n) y = ap suc (size-set zs n y)

-- what stands in the changed list is the new member, or it stood there before
pub from-set : {X : Type 0} (xs : List X) (n m : ℕ) (y z : X) → slice_get (slice_set xs n y) m ≡ Some z → ((n ≡ m) × (y ≡ z)) ⊎ (slice_get xs m ≡ Some z)
from-set [] n m y z h = inr h
from-set (x ∷ xs) zero zero y z h = let same : y ≡ z = cc in inl (refl, same)
from-set (x ∷ xs) zero (suc m) y z h = inr h
from-set (x ∷ xs) (suc n) zero y z h = inr h
from-set (x ∷ xs) (suc n) (suc m) y z h = elim (from-set xs n m y z h) [
  | inl e ↦ inl (ap suc e.0, e.1)
  | inr e ↦ inr e
]

-- what differs from the member that was changed stays
pub kept-set : {X : Type 0} (xs : List X) (n m : ℕ) (x y z : X) → slice_get xs n ≡ Some x → slice_get xs m ≡ Some z → (x ≡ z → ⊥) → slice_get (slice_set xs n y) m ≡ Some z
kept-set [] n m x y z at h differ = cc
kept-set (w ∷ ws) zero zero x y z at h differ = let same : x ≡ z = cc in absurd (differ same)
kept-set (w ∷ ws) zero (suc m) x y z at h differ = h
kept-set (w ∷ ws) (suc n) zero x y z at h differ = h
kept-set (w ∷ ws) (suc n) (suc m) x y z at h differ = kept-set ws n m x y z at h differ
