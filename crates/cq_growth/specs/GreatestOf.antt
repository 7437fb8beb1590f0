-- The greatest number of a list.
use Rattle.std.specs.Prelude.{ℕ, List, ◌<◌, ◌≤◌, length, slice_index}

-- the number at the place is at least each other one
pub record IsGreatest (numbers : List ℕ) (place : ℕ) : Type 0 where
  pub within : place < length numbers
  pub greatest : (n : ℕ) → n < length numbers → slice_index numbers n ≤ slice_index numbers place
