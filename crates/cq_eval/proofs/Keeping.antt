-- A path of one foreign key.
use Rattle.std.proofs.Common.{ℕ, List, [], ◌∷◌, ◌≡◌, ◌≤◌, ◌<◌, length, get_or, refl, arith}

pub only_key : (path : List ℕ) → 1 ≤ length path → length path < 2 → get_or path 0 0 ∷ [] ≡ path
only_key [] some one = absurd (omega arith)
only_key (key ∷ []) some one = refl
only_key (key ∷ next ∷ path) some one = absurd (omega arith)
