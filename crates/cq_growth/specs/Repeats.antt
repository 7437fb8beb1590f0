-- What a list repeats at its end.
use Rattle.std.specs.Prelude.{ℕ, List, ◌++◌, ◌≡◌, ◌<◌, ◌≤◌, length}

-- the list ends with the block twice
abbrev pub EndsTwice : List ℕ → List ℕ → Type 0
EndsTwice path block = (start : List ℕ) × (path ≡ start ++ (block ++ block))

-- and the block isn't empty
abbrev pub IsTwice : List ℕ → List ℕ → Type 0
IsTwice path block = (0 < length block) × EndsTwice path block

-- the shortest such block
pub record IsShortest (path block : List ℕ) : Type 0 where
  pub twice : IsTwice path block
  pub least : (other : List ℕ) → IsTwice path other → length block ≤ length other
