-- The order of entity terms: by the length of the path, then by the generator, then by the path.
use Rattle.std.specs.Prelude.{ℕ, List, [], ◌∷◌, ◌≡◌, ◌<◌, ◌⊎◌, length}
use Rattle.cq_theory.specs.declared.term.EntTerm.{EntTerm}
use Rattle.cq_theory.specs.EntTerm.{extended}

-- one path is before another in the order of dictionaries
abbrev pub IsPathBefore : List ℕ → List ℕ → Type 0
IsPathBefore [] [] = ⊥
IsPathBefore [] (k ∷ ks) = Unit {0}
IsPathBefore (j ∷ js) [] = ⊥
IsPathBefore (j ∷ js) (k ∷ ks) = (j < k) ⊎ ((j ≡ k) × IsPathBefore js ks)

-- one term is before another: by the length of the path, then by the generator, then by the path
abbrev pub IsBefore : EntTerm → EntTerm → Type 0
IsBefore t u =
    (length t.path < length u.path)
    ⊎ ((length t.path ≡ length u.path)
    × ((t.generator < u.generator) ⊎ ((t.generator ≡ u.generator) × IsPathBefore t.path u.path)))

abbrev pub IsUpTo : EntTerm → EntTerm → Type 0
IsUpTo t u = IsBefore t u ⊎ (t ≡ u)

abbrev pub generator_term : ℕ → EntTerm
generator_term g = record { generator = g; path = [] }

abbrev pub one_further : EntTerm → ℕ → EntTerm
one_further t k = extended t (k ∷ [])
