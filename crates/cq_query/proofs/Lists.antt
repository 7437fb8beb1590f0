-- What a loop over a list appends.
use Rattle.std.proofs.Common.{ℕ, List, ◌∷◌, ◌++◌, ◌≡◌, ◌<◌, ◌+◌, take, length, get_or, sym, ap, ◌∙◌, arith}
use Rattle.std.specs.List.{flat_map}
use Rattle.std.proofs.lemmas.List.{flat_map_more, take_more}

-- what a loop over a list appends, one step on
pub pushed_more : {X Y : Type 0} (f : X → List Y) (before old new : List Y) (items xs : List X) (i : ℕ) (d : X) → items ≡ xs → i < length items → old ≡ before ++ flat_map f (take i xs)
    → new ≡ old ++ f (get_or items i d) → new ≡ before ++ flat_map f (take (i + 1) xs)
pushed_more f before old new items xs i d same within are is =
    let inside : i < length xs = omega (arith, ap length same) in
    is ∙ (λ j. are j ++ f (get_or (same j) i d)) ∙ flat_map_more f before (take i xs) (get_or xs i d) ∙ ap (λ l. before ++ flat_map f l) (sym (take_more xs i d inside))
