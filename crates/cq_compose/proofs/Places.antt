-- Where the members of lists stand that are put one behind another.
use Rattle.std.proofs.Common.{ℕ, zero, suc, List, [], ◌∷◌, ◌++◌, Some, None, ◌≡◌, ◌+◌, map, length, take, refl, sym, ap, ◌∙◌, append_assoc, arith}
use Rattle.std.specs.Prelude.{slice_get, sum}
use Rattle.std.specs.List.{flat_map, enumerate_from, range_with_len}
use Rattle.std.proofs.Math.Seq.{take-append_seam}
use Rattle.std.proofs.lemmas.List.{map-append, length-append}
use Rattle.std.proofs.lemmas.List.Sums.{sum_by-cons, sum_by-append}

pub get_front : {X : Type 0} (xs ys : List X) (n : ℕ) (x : X) → slice_get xs n ≡ Some x → slice_get (xs ++ ys) n ≡ Some x
get_front [] ys n x h = cc
get_front (y ∷ xs) ys zero x h = h
get_front (y ∷ xs) ys (suc n) x h = get_front xs ys n x h

pub get_back : {X : Type 0} (xs ys : List X) (n : ℕ) (x : X) → slice_get ys n ≡ Some x → slice_get (xs ++ ys) (length xs + n) ≡ Some x
get_back [] ys n x h = let here : 0 + n ≡ n = omega arith in ap (slice_get ys) here ∙ h
get_back (y ∷ xs) ys n x h = let there : suc (length xs) + n ≡ suc (length xs + n) = omega arith in ap (slice_get (y ∷ (xs ++ ys))) there ∙ get_back xs ys n x h

pub no_mapped : {X Y : Type 0} (f : X → Y) (xs : List X) (n : ℕ) → slice_get xs n ≡ None → slice_get (map f xs) n ≡ None
no_mapped f [] n h = refl
no_mapped f (x ∷ xs) zero h = cc
no_mapped f (x ∷ xs) (suc n) h = no_mapped f xs n h

pub no_enumerated : {X : Type 0} (s : ℕ) (xs : List X) (n : ℕ) → slice_get xs n ≡ None → slice_get (enumerate_from s xs) n ≡ None
no_enumerated s [] n h = refl
no_enumerated s (x ∷ xs) zero h = cc
no_enumerated s (x ∷ xs) (suc n) h = no_enumerated (s + 1) xs n h

pub length-enumerated : {X : Type 0} (s : ℕ) (xs : List X) → length (enumerate_from s xs) ≡ length xs
length-enumerated s [] = refl
length-enumerated s (x ∷ xs) = ap suc (length-enumerated (s + 1) xs)

module _ {X V Y : Type 0} (f : X → List Y) (width : V → ℕ) where
  -- What the member at place y gives stands behind what the members before it give, whose numbers are the widths of other members.
  pub flat_at : (xs : List X) (vs : List V) → ((i : ℕ) (x : X) (v : V) → slice_get xs i ≡ Some x → slice_get vs i ≡ Some v → length (f x) ≡ width v) → length xs ≡ length vs
      → (y : ℕ) (x : X) (n : ℕ) (z : Y) → slice_get xs y ≡ Some x → slice_get (f x) n ≡ Some z → slice_get (flat_map f xs) (sum (map width (take y vs)) + n) ≡ Some z
  flat_at [] vs sizes same y x n z h k = cc
  flat_at (w ∷ xs) [] sizes same y x n z h k = absurd (omega arith)
  flat_at (w ∷ xs) (v ∷ vs) sizes same zero x n z h k =
      let here : 0 + n ≡ n = omega arith in
      let is : w ≡ x = cc in
      ap (slice_get (f w ++ flat_map f xs)) here ∙ get_front (f w) (flat_map f xs) n z (ap (λ o. slice_get (f o) n) is ∙ k)
  flat_at (w ∷ xs) (v ∷ vs) sizes same (suc y) x n z h k =
      let rest = flat_at xs vs (λ i a b at at'. sizes (suc i) a b at at') (omega arith) y x n z h k in
      let size : length (f w) ≡ width v = sizes 0 w v refl refl in
      let all : sum (map width (take (suc y) (v ∷ vs))) ≡ width v + sum (map width (take y vs)) = sum_by-cons (λ n. n) (width v) (map width (take y vs)) in
      let there : sum (map width (take (suc y) (v ∷ vs))) + n ≡ length (f w) + (sum (map width (take y vs)) + n) = omega (arith, all, size) in
      ap (slice_get (f w ++ flat_map f xs)) there ∙ get_back (f w) (flat_map f xs) (sum (map width (take y vs)) + n) z rest

  pub length-flat : (vs : List X) (width' : X → ℕ) → ((x : X) → length (f x) ≡ width' x) → length (flat_map f vs) ≡ sum (map width' vs)
  length-flat [] width' h = refl
  length-flat (v ∷ vs) width' h =
      let rest = length-flat vs width' h in
      let first = h v in
      let all : sum (map width' (v ∷ vs)) ≡ width' v + sum (map width' vs) = sum_by-cons (λ n. n) (width' v) (map width' vs) in
      omega (arith, all, rest, first, length-append (f v) (flat_map f vs))

pub range-append : (s a b : ℕ) → range_with_len s (a + b) ≡ range_with_len s a ++ range_with_len (s + a) b
range-append s zero b =
    let none : 0 + b ≡ b = omega arith in
    let here : s ≡ s + 0 = omega arith in
    ap (range_with_len s) none ∙ ap (λ t. range_with_len t b) here
range-append s (suc a) b =
    let more : suc a + b ≡ suc (a + b) = omega arith in
    let there : s + 1 + a ≡ s + suc a = omega arith in
    ap (range_with_len s) more ∙ ap (λ l. s ∷ l) (range-append (s + 1) a b ∙ ap (λ t. range_with_len (s + 1) a ++ range_with_len t b) there)

-- What rows of numbers give, one behind another, is what all numbers give in order.
module _ {V Y : Type 0} (g : ℕ → Y) (width : V → ℕ) (piece : ℕ → List Y) (all : List V)
    (is_piece : (y : ℕ) (v : V) → slice_get all y ≡ Some v → piece y ≡ map g (range_with_len (sum (map width (take y all))) (width v))) where
  rows_from : (before rest : List V) → before ++ rest ≡ all
      → flat_map piece (range_with_len (length before) (length rest)) ≡ map g (range_with_len (sum (map width before)) (sum (map width rest)))
  rows_from before [] is = refl
  rows_from before (v ∷ rest) is =
      let here : length before + 0 ≡ length before = omega arith in
      let at : slice_get all (length before) ≡ Some v = ap (λ l. slice_get l (length before)) (sym is) ∙ ap (slice_get (before ++ v ∷ rest)) (sym here) ∙ get_back before (v ∷ rest) 0 v refl in
      let taken : take (length before) all ≡ before = ap (take (length before)) (sym is) ∙ take-append_seam before (v ∷ rest) in
      let first : piece (length before) ≡ map g (range_with_len (sum (map width before)) (width v)) =
      is_piece (length before) v at ∙ ap (λ l. map g (range_with_len (sum (map width l)) (width v))) taken in
      let whole : (before ++ v ∷ []) ++ rest ≡ all = append_assoc before (v ∷ []) rest ∙ is in
      let next = rows_from (before ++ v ∷ []) rest whole in
      let longer : length (before ++ v ∷ []) ≡ length before + 1 = length-append before (v ∷ []) in
      let wider : sum (map width (before ++ v ∷ [])) ≡ sum (map width before) + width v =
      ap sum (map-append width before (v ∷ [])) ∙ sum_by-append (λ n. n) (map width before) (width v ∷ [])
      ∙ ap (λ n. sum (map width before) + n) (let one : 0 + width v ≡ width v = omega arith in one) in
      let rest' : flat_map piece (range_with_len (length before + 1) (length rest)) ≡ map g (range_with_len (sum (map width before) + width v) (sum (map width rest))) =
      ap (λ s. flat_map piece (range_with_len s (length rest))) (sym longer) ∙ next ∙ ap (λ s. map g (range_with_len s (sum (map width rest)))) wider in
      (λ i. first i ++ rest' i) ∙ sym (map-append g (range_with_len (sum (map width before)) (width v)) (range_with_len (sum (map width before) + width v) (sum (map width rest))))
      ∙ ap (map g) (sym (range-append (sum (map width before)) (width v) (sum (map width rest)))
      ∙ ap (range_with_len (sum (map width before))) (sym (sum_by-cons (λ n. n) (width v) (map width rest))))

  pub all_rows : flat_map piece (range_with_len 0 (length all)) ≡ map g (range_with_len 0 (sum (map width all)))
  all_rows = rows_from [] all refl
