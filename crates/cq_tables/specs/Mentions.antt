-- Which cells hold a row.
use Rattle.std.specs.Prelude.{◌≡◌, ℕ, List, length, Some, slice_get}
use Rattle.cq_tables.specs.Content.{Content, cell_of}

-- the list has each cell that holds a row, by its row and key, once, and no other; only live rows have such cells
pub record ListsMentions (m : Content) (row : ℕ) (places : List (ℕ × ℕ)) : Type 0 where
  pub holds : (i r k : ℕ) → slice_get places i ≡ Some (r, k) → cell_of m r k ≡ Some row
  pub all : (r k : ℕ) → cell_of m r k ≡ Some row → (i : ℕ) × (slice_get places i ≡ Some (r, k))
  pub once : (i j : ℕ) (p : ℕ × ℕ) → slice_get places i ≡ Some p → slice_get places j ≡ Some p → i ≡ j

-- how many cells hold a row
abbrev pub CountsMentions : Content → ℕ → ℕ → Type 0
CountsMentions m row n = (places : List (ℕ × ℕ)) × ListsMentions m row places × (length places ≡ n)
