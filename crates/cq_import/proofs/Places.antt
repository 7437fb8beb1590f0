-- Members of lists that are made of others, by their places.
use Rattle.std.proofs.Common.{ℕ, zero, suc, List, [], ◌∷◌, ◌++◌, Some, ◌≡◌, ◌<◌, ◌+◌, map, take, length, sum, refl, sym, ap, ◌∙◌, arith}
use Rattle.std.specs.Prelude.{slice_get, slice_index, replicate}
use Rattle.std.specs.List.{range_with_len, flat_map}
use Rattle.std.proofs.lemmas.List.{length-append}
use Rattle.std.proofs.lemmas.List.Sums.{sum_by-cons}

pub get-append : {X : Type 0} (xs ys : List X) (n : ℕ) (y : X) → slice_get ys n ≡ Some y → slice_get (xs ++ ys) (length xs + n) ≡ Some y
get-append [] ys n y h = let here : 0 + n ≡ n = omega arith in ap (slice_get ys) here ∙ h
get-append (x ∷ xs) ys n y h = let there : suc (length xs) + n ≡ suc (length xs + n) = omega arith in ap (slice_get (x ∷ (xs ++ ys))) there ∙ get-append xs ys n y h

pub get-append_front : {X : Type 0} (xs ys : List X) (n : ℕ) (x : X) → slice_get xs n ≡ Some x → slice_get (xs ++ ys) n ≡ Some x
get-append_front [] ys n x h = cc
get-append_front (y ∷ xs) ys zero x h = h
get-append_front (y ∷ xs) ys (suc n) x h = get-append_front xs ys n x h

pub get-map : {X Y : Type 0} (f : X → Y) (xs : List X) (n : ℕ) (x : X) → slice_get xs n ≡ Some x → slice_get (map f xs) n ≡ Some (f x)
get-map f [] n x h = cc
get-map f (y ∷ ys) zero x h = let same : y ≡ x = cc in ap (λ z. Some (f z)) same
get-map f (y ∷ ys) (suc n) x h = get-map f ys n x h

pub get-replicate : {X : Type 0} (n k : ℕ) (x : X) → k < n → slice_get (replicate n x) k ≡ Some x
get-replicate zero k x h = absurd (omega arith)
get-replicate (suc n) zero x h = refl
get-replicate (suc n) (suc k) x h = get-replicate n k x (omega arith)

-- lists that are made of one block for each number
module _ {X : Type 0} (h : ℕ → List X) where
  -- the blocks of consecutive numbers from s on have these sizes
  abbrev pub HaveSizes : ℕ → List ℕ → Type 0
  HaveSizes s counts = (k : ℕ) → k < length counts → length (h (s + k)) ≡ slice_index counts k

  first_size : (s c : ℕ) (cs : List ℕ) → HaveSizes s (c ∷ cs) → length (h s) ≡ c
  first_size s c cs sizes = let here : s ≡ s + 0 = omega arith in ap (λ m. length (h m)) here ∙ sizes 0 (omega arith)

  rest_sizes : (s c : ℕ) (cs : List ℕ) → HaveSizes s (c ∷ cs) → HaveSizes (s + 1) cs
  rest_sizes s c cs sizes k within = let there : s + 1 + k ≡ s + suc k = omega arith in ap (λ m. length (h m)) there ∙ sizes (suc k) (omega arith)

  pub placed : (s : ℕ) (counts : List ℕ) → HaveSizes s counts → (e r : ℕ) (x : X) → e < length counts → slice_get (h (s + e)) r ≡ Some x
      → slice_get (flat_map h (range_with_len s (length counts))) (sum (take e counts) + r) ≡ Some x
  placed s [] sizes e r x within at = absurd (omega arith)
  placed s (c ∷ cs) sizes zero r x within at =
      let here : s + 0 ≡ s = omega arith in
      let none : sum [] + r ≡ r = omega arith in
      ap (slice_get (h s ++ flat_map h (range_with_len (s + 1) (length cs)))) none
      ∙ get-append_front (h s) (flat_map h (range_with_len (s + 1) (length cs))) r x (ap (λ m. slice_get (h m) r) (sym here) ∙ at)
  placed s (c ∷ cs) sizes (suc e) r x within at =
      let there : s + 1 + e ≡ s + suc e = omega arith in
      let size = first_size s c cs sizes in
      let whole : sum (c ∷ take e cs) + r ≡ length (h s) + (sum (take e cs) + r) = omega (arith, size, sum_by-cons (λ m. m) c (take e cs)) in
      ap (slice_get (h s ++ flat_map h (range_with_len (s + 1) (length cs)))) whole
      ∙ get-append (h s) (flat_map h (range_with_len (s + 1) (length cs))) (sum (take e cs) + r) x
      (placed (s + 1) cs (rest_sizes s c cs sizes) e r x (omega arith) (ap (λ m. slice_get (h m) r) there ∙ at))

  pub size_of_blocks : (s : ℕ) (counts : List ℕ) → HaveSizes s counts → length (flat_map h (range_with_len s (length counts))) ≡ sum counts
  size_of_blocks s [] sizes = refl
  size_of_blocks s (c ∷ cs) sizes =
      omega (arith, length-append (h s) (flat_map h (range_with_len (s + 1) (length cs))), first_size s c cs sizes, size_of_blocks (s + 1) cs (rest_sizes s c cs sizes), sum_by-cons (λ m. m) c cs)
