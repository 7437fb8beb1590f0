-- Lists that grow by one.
use Rattle.std.proofs.Common.{ℕ, zero, suc, Some, List, [], ◌∷◌, ◌++◌, ◌≡◌, ◌<◌, ◌+◌, map, take, length, get_or, sym, ap, ◌∙◌, append_assoc, arith}
use Rattle.std.specs.Prelude.{slice_get}
use Rattle.std.proofs.lemmas.Option.{slice_get_within, slice_get-get_or}
use Rattle.std.specs.List.{range_with_len, flat_map}
use Rattle.std.proofs.lemmas.List.{append-nil, take_more, map-append}
use Rattle.std.proofs.lemmas.Grind.{flat_map-append}
use Rattle.cq_theory.specs.Canonical.{below}

-- one number more
pub range_more : (s n : ℕ) → range_with_len s (suc n) ≡ range_with_len s n ++ (s + n) ∷ []
range_more s zero = let here : s ≡ s + 0 = omega arith in ap (λ m. m ∷ []) here
range_more s (suc n) = let there : s + 1 + n ≡ s + suc n = omega arith in ap (λ l. s ∷ l) (range_more (s + 1) n ∙ ap (λ m. range_with_len (s + 1) n ++ m ∷ []) there)

-- what a loop over the numbers below a count appends, one step on
pub pushed_below : {X : Type 0} (f : ℕ → List X) (before old new : List X) (n : ℕ) → old ≡ before ++ flat_map f (below n) → new ≡ old ++ f n → new ≡ before ++ flat_map f (below (n + 1))
pushed_below f before old new n are is =
    let here : 0 + n ≡ n = omega arith in
    let one : n + 1 ≡ suc n = omega arith in
    let longer : below (n + 1) ≡ below n ++ n ∷ [] = ap below one ∙ range_more 0 n ∙ ap (λ m. below n ++ m ∷ []) here in
    let last : flat_map f (below (n + 1)) ≡ flat_map f (below n) ++ f n =
    ap (flat_map f) longer ∙ flat_map-append f (below n) (n ∷ []) ∙ ap (λ l. flat_map f (below n) ++ l) (append-nil (f n)) in
    is ∙ ap (λ l. l ++ f n) are ∙ append_assoc before (flat_map f (below n)) (f n) ∙ ap (λ l. before ++ l) (sym last)

-- one item more, of each of which f gives one
pub mapped_one : {X Y : Type 0} (f : X → Y) (xs : List X) (i : ℕ) (x : X) (before old new : List Y) → Some x ≡ slice_get xs i → old ≡ before ++ map f (take i xs) → new ≡ old ++ f x ∷ []
    → new ≡ before ++ map f (take (i + 1) xs)
mapped_one f xs i x before old new found are is =
    let within : i < length xs = slice_get_within xs i x (sym found) in
    let both : Some x ≡ Some (get_or xs i x) = found ∙ slice_get-get_or xs i x within in
    let same : x ≡ get_or xs i x = cc in
    is ∙ (λ j. are j ++ f (same j) ∷ []) ∙ append_assoc before (map f (take i xs)) (f (get_or xs i x) ∷ [])
    ∙ ap (λ l. before ++ l) (sym (map-append f (take i xs) (get_or xs i x ∷ [])) ∙ ap (map f) (sym (take_more xs i x within)))
