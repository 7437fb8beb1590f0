-- The rank of a member of a list among those that are the same number.
use Rattle.std.specs.Prelude.{ℕ, zero, suc, List, [], ◌∷◌, ◌==◌, if◌then◌else◌, length}
use Rattle.cq_theory.specs.Groups.{positions}

-- how many of the first n members are e
abbrev pub rank : List ℕ → ℕ → ℕ → ℕ
rank [] e n = 0
rank (x ∷ xs) e zero = 0
rank (x ∷ xs) e (suc n) = if x == e then suc (rank xs e n) else rank xs e n

-- how many members are e
abbrev pub members : List ℕ → ℕ → ℕ
members xs e = length (positions xs e)
