-- Lists of files, one file more.
use Rattle.std.proofs.Common.{ℕ, List, [], ◌∷◌, ◌++◌, ◌+◌, ◌≡◌, map, sym, ap, ◌∙◌, arith}
use Rattle.std.proofs.lemmas.List.{map-append}
use Rattle.std.proofs.lemmas.List.FromFn.{map-range_with_len_more}
use Rattle.cq_theory.specs.Canonical.{below}

module _ {X : Type 0} (shown : X → List ℕ × List ℕ) where
  pub one_file : (old new : List X) (file : X) (before : List (List ℕ × List ℕ)) (last : List ℕ × List ℕ) → map shown old ≡ before → new ≡ old ++ file ∷ [] → shown file ≡ last
      → map shown new ≡ before ++ last ∷ []
  one_file old new file before last are is same = ap (map shown) is ∙ map-append shown old (file ∷ []) ∙ (λ i. are i ++ same i ∷ [])

  pub file_below : (file_of : ℕ → List ℕ × List ℕ) (old new : List X) (file : X) (n : ℕ) → map shown old ≡ map file_of (below n) → new ≡ old ++ file ∷ [] → shown file ≡ file_of n
      → map shown new ≡ map file_of (below (n + 1))
  file_below file_of old new file n are is same = one_file old new file (map file_of (below n)) (file_of n) are is same ∙ sym (map-range_with_len_more file_of 0 n n (omega arith))
