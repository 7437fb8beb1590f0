-- What loops over the numbers below a count push behind others.
use Rattle.std.proofs.Common.{ℕ, List, [], ◌∷◌, ◌++◌, ◌≡◌, ◌+◌, map, sym, ap, ◌∙◌, arith, append_assoc}
use Rattle.std.proofs.lemmas.List.FromFn.{map-range_with_len_more}
use Rattle.cq_theory.specs.Canonical.{below}

-- one number more
pub mapped_below : {X : Type 0} (f : ℕ → X) (before old new : List X) (n : ℕ) → old ≡ before ++ map f (below n) → new ≡ old ++ f n ∷ [] → new ≡ before ++ map f (below (n + 1))
mapped_below f before old new n are is =
    is ∙ ap (λ l. l ++ f n ∷ []) are ∙ append_assoc before (map f (below n)) (f n ∷ []) ∙ ap (λ l. before ++ l) (sym (map-range_with_len_more f 0 n n (omega arith)))
