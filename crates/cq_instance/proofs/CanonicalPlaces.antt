-- Lists that are made of one block for each number: where the members of a block stand.
use Rattle.std.proofs.Common.{ℕ, zero, suc, List, [], ◌∷◌, ◌++◌, Some, ◌≡◌, ◌<◌, ◌+◌, ◌⊎◌, inl, inr, take, length, sum, refl, sym, ap, ◌∙◌, arith}
use Rattle.std.specs.Prelude.{slice_get, slice_index, replicate, option_map}
use Rattle.std.specs.List.{range_with_len, flat_map, enumerate_from}
use Rattle.std.proofs.lemmas.List.{length-append}
use Rattle.std.proofs.lemmas.List.Sums.{sum_by-cons}
use Rattle.cq_instance.proofs.Lists.{get-append, get-append_front}

-- what stands in an append stands in its first part, or behind it in its second
pub split : {X : Type 0} (xs ys : List X) (n : ℕ) (x : X) → slice_get (xs ++ ys) n ≡ Some x
    → (slice_get xs n ≡ Some x) ⊎ ((m : ℕ) × (n ≡ length xs + m) × (slice_get ys m ≡ Some x))
split [] ys n x h = let none : n ≡ 0 + n = omega arith in inr (n, none, h)
split (y ∷ xs) ys zero x h = inl h
split (y ∷ xs) ys (suc n) x h = elim (split xs ys n x h) [
  | inl first ↦ inl first
  | inr later ↦ let next : suc n ≡ suc (length xs) + later.0 = omega (arith, later.1) in inr (later.0, next, later.2)
]

pub get-behind : {X : Type 0} (xs ys : List X) (n : ℕ) → slice_get (xs ++ ys) (length xs + n) ≡ slice_get ys n
get-behind [] ys n = let none : 0 + n ≡ n = omega arith in ap (slice_get ys) none
get-behind (x ∷ xs) ys n = let next : suc (length xs) + n ≡ suc (length xs + n) = omega arith in ap (slice_get (x ∷ (xs ++ ys))) next ∙ get-behind xs ys n

pub get-replicate : {X : Type 0} (n k : ℕ) (x : X) → k < n → slice_get (replicate n x) k ≡ Some x
get-replicate zero k x h = absurd (omega arith)
get-replicate (suc n) zero x h = refl
get-replicate (suc n) (suc k) x h = get-replicate n k x (omega arith)

pub from_replicate : {X : Type 0} (n k : ℕ) (x y : X) → slice_get (replicate n x) k ≡ Some y → (k < n) × (y ≡ x)
from_replicate zero k x y h = cc
from_replicate (suc n) zero x y h = let same : y ≡ x = cc in (omega arith, same)
from_replicate (suc n) (suc k) x y h = let rest = from_replicate n k x y h in (omega (arith, rest.0), rest.1)

pub get-enumerated : {X : Type 0} (s : ℕ) (xs : List X) (n : ℕ) → slice_get (enumerate_from s xs) n ≡ option_map (λ x. (s + n, x)) (slice_get xs n)
get-enumerated s [] n = refl
get-enumerated s (x ∷ xs) zero = let here : s ≡ s + 0 = omega arith in ap (λ m. Some (m, x)) here
get-enumerated s (x ∷ xs) (suc n) = let there : s + 1 + n ≡ s + suc n = omega arith in get-enumerated (s + 1) xs n ∙ ap (λ m. option_map (λ y. (m, y)) (slice_get xs n)) there

-- a place in a list that is made of h at each number: the number, and the place in its block
pub record IsBlockPlace {X : Type 0} (h : ℕ → List X) (s : ℕ) (counts : List ℕ) (n : ℕ) (x : X) : Type 0 where
  pub block : ℕ
  pub inner : ℕ
  pub within : block < length counts
  pub at : slice_get (h (s + block)) inner ≡ Some x
  pub place : n ≡ sum (take block counts) + inner

module _ {X : Type 0} (h : ℕ → List X) where
  -- the blocks of consecutive numbers from s on have these sizes
  abbrev pub HaveSizes : ℕ → List ℕ → Type 0
  HaveSizes s counts = (k : ℕ) → k < length counts → length (h (s + k)) ≡ slice_index counts k

  first_size : (s c : ℕ) (cs : List ℕ) → HaveSizes s (c ∷ cs) → length (h s) ≡ c
  first_size s c cs sizes = let here : s ≡ s + 0 = omega arith in ap (λ m. length (h m)) here ∙ sizes 0 (omega arith)

  rest_sizes : (s c : ℕ) (cs : List ℕ) → HaveSizes s (c ∷ cs) → HaveSizes (s + 1) cs
  rest_sizes s c cs sizes k within = let there : s + 1 + k ≡ s + suc k = omega arith in ap (λ m. length (h m)) there ∙ sizes (suc k) (omega arith)

  pub placed : (s : ℕ) (counts : List ℕ) → HaveSizes s counts → (e r : ℕ) (x : X) → e < length counts → slice_get (h (s + e)) r ≡ Some x
      → slice_get (flat_map h (range_with_len s (length counts))) (sum (take e counts) + r) ≡ Some x
  placed s [] sizes e r x within at = absurd (omega arith)
  placed s (c ∷ cs) sizes zero r x within at =
      let here : s + 0 ≡ s = omega arith in
      let none : sum [] + r ≡ r = omega arith in
      ap (slice_get (h s ++ flat_map h (range_with_len (s + 1) (length cs)))) none
      ∙ get-append_front (h s) (flat_map h (range_with_len (s + 1) (length cs))) r x (ap (λ m. slice_get (h m) r) (sym here) ∙ at)
  placed s (c ∷ cs) sizes (suc e) r x within at =
      let there : s + 1 + e ≡ s + suc e = omega arith in
      let size = first_size s c cs sizes in
      let whole : sum (c ∷ take e cs) + r ≡ length (h s) + (sum (take e cs) + r) = omega (arith, size, sum_by-cons (λ m. m) c (take e cs)) in
      ap (slice_get (h s ++ flat_map h (range_with_len (s + 1) (length cs)))) whole
      ∙ get-append (h s) (flat_map h (range_with_len (s + 1) (length cs))) (sum (take e cs) + r) x
      (placed (s + 1) cs (rest_sizes s c cs sizes) e r x (omega arith) (ap (λ m. slice_get (h m) r) there ∙ at))

  pub size_of_blocks : (s : ℕ) (counts : List ℕ) → HaveSizes s counts → length (flat_map h (range_with_len s (length counts))) ≡ sum counts
  size_of_blocks s [] sizes = refl
  size_of_blocks s (c ∷ cs) sizes =
      omega (arith, length-append (h s) (flat_map h (range_with_len (s + 1) (length cs))), first_size s c cs sizes, size_of_blocks (s + 1) cs (rest_sizes s c cs sizes), sum_by-cons (λ m. m) c cs)

  pub from_placed : (s : ℕ) (counts : List ℕ) → HaveSizes s counts → (n : ℕ) (x : X) → slice_get (flat_map h (range_with_len s (length counts))) n ≡ Some x → IsBlockPlace h s counts n x
  from_placed s [] sizes n x at = cc
  from_placed s (c ∷ cs) sizes n x at = elim (split (h s) (flat_map h (range_with_len (s + 1) (length cs))) n x at) [
    | inl first ↦
        let here : s ≡ s + 0 = omega arith in
        record { block = 0; inner = n; within = omega arith; at = ap (λ m. slice_get (h m) n) (sym here) ∙ first; place = omega arith }
    | inr later ↦
        let rest = from_placed (s + 1) cs (rest_sizes s c cs sizes) later.0 x later.2 in
        let there : s + suc rest.block ≡ s + 1 + rest.block = omega arith in
        record {
          block = suc rest.block;
          inner = rest.inner;
          within = omega (arith, rest.within);
          at = ap (λ m. slice_get (h m) rest.inner) there ∙ rest.at;
          place = omega (arith, later.1, rest.place, first_size s c cs sizes, sum_by-cons (λ m. m) c (take rest.block cs));
        }
  ]
