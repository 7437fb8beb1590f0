-- Loops over consecutive numbers.
use Rattle.std.proofs.Common.{ℕ, zero, suc, List, [], ◌∷◌, ◌++◌, ◌≡◌, ◌+◌, map, ap, ◌∙◌, arith}
use Rattle.std.specs.List.{range_with_len}
use Rattle.std.proofs.lemmas.List.{map-append}
use Rattle.cq_theory.specs.Canonical.{below}

range_more : (s n : ℕ) → range_with_len s (suc n) ≡ range_with_len s n ++ (s + n) ∷ []
range_more s zero = let here : s ≡ s + 0 = omega arith in ap (λ m. m ∷ []) here
range_more s (suc n) = let there : s + 1 + n ≡ s + suc n = omega arith in ap (λ l. s ∷ l) (range_more (s + 1) n ∙ ap (λ m. range_with_len (s + 1) n ++ m ∷ []) there)

-- one number more
pub below_more : (n : ℕ) → below (n + 1) ≡ below n ++ n ∷ []
below_more n =
    let one : n + 1 ≡ suc n = omega arith in
    let here : 0 + n ≡ n = omega arith in
    ap below one ∙ range_more 0 n ∙ ap (λ m. below n ++ m ∷ []) here

pub map_below_more : {X : Type 0} (f : ℕ → X) (n : ℕ) → map f (below (n + 1)) ≡ map f (below n) ++ f n ∷ []
map_below_more f n = ap (map f) (below_more n) ∙ map-append f (below n) (n ∷ [])
