-- Forests over classes of numbers.
use Rattle.std.specs.Prelude.{ℕ, List, ◌≡◌, ◌<◌, ◌≤◌, length, slice_index}

-- no number leads to a greater one
abbrev pub IsDown : List ℕ → Type 0
IsDown parents = (x : ℕ) → x < length parents → slice_index parents x ≤ x

-- each number leads to one of its class, and only a first member leads to itself
pub record IsForest (first : ℕ → ℕ) (parents : List ℕ) : Type 0 where
  pub leads : (x : ℕ) → x < length parents → first (slice_index parents x) ≡ first x
  pub roots : (x : ℕ) → x < length parents → slice_index parents x ≡ x → first x ≡ x
