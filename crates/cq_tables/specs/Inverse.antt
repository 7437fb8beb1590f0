-- The lists of places are the inverse of the cells.
use Rattle.std.specs.Prelude.{◌≡◌, ℕ, ◌<◌, List, [], length, Option, Some, None, slice_index_or}

-- a filled cell stands in the list of its row, at its spot
pub record IsListed (lists : List (List ℕ)) (spots : List ℕ) (i s : ℕ) : Type 0 where
  pub below : slice_index_or spots i 0 < length (slice_index_or lists s [])
  pub place : slice_index_or (slice_index_or lists s []) (slice_index_or spots i 0) 0 ≡ i

-- what stands in the list of a row at p is a cell that holds the row, with the spot p
pub record IsMention (cells : List (Option ℕ)) (spots : List ℕ) (s p i : ℕ) : Type 0 where
  pub cell : slice_index_or cells i None ≡ Some s
  pub spot : slice_index_or spots i 0 ≡ p

pub record IsInverse (cells : List (Option ℕ)) (spots : List ℕ) (lists : List (List ℕ)) : Type 0 where
  pub count : length spots ≡ length cells
  pub listed : (i s : ℕ) → slice_index_or cells i None ≡ Some s → IsListed lists spots i s
  pub mention : (s p : ℕ) → p < length (slice_index_or lists s [])
      → IsMention cells spots s p (slice_index_or (slice_index_or lists s []) p 0)

-- the list has each place that holds a row once, and no other
pub record ListsPlaces (cells : List (Option ℕ)) (row : ℕ) (places : List ℕ) : Type 0 where
  pub holds : (i : ℕ) → i < length places → slice_index_or cells (slice_index_or places i 0) None ≡ Some row
  pub all : (p : ℕ) → slice_index_or cells p None ≡ Some row → (i : ℕ) × (i < length places) × (slice_index_or places i 0 ≡ p)
  pub once : (i j : ℕ) → i < length places → j < length places → slice_index_or places i 0 ≡ slice_index_or places j 0 → i ≡ j

-- how many places hold a row
abbrev pub CountsPlaces : List (Option ℕ) → ℕ → ℕ → Type 0
CountsPlaces cells row n = (places : List ℕ) × ListsPlaces cells row places × (length places ≡ n)
