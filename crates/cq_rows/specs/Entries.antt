-- The rows of the generators, and the row that each row is now.
use Rattle.std.specs.Prelude.{◌≡◌, ℕ, ◌≤◌, true, List, length, map, slice_index_or}
use Rattle.cq_tables.specs.Content.{Content, made_of, live_of}
use Rattle.cq_rows.specs.declared.entries.Entries.{Entries}

-- the row to which a row was renamed; the row itself where none is listed
unfoldable pub row_now : List ℕ → ℕ → ℕ
row_now renamed r = slice_index_or renamed r r

-- the row of each generator
unfoldable pub rows_of : Entries → List ℕ
rows_of e = map (row_now e.renamings) e.first.items

-- pairs of rows, as they are now
abbrev pub pair_now : List ℕ → ℕ × ℕ → ℕ × ℕ
pair_now renamed p = (row_now renamed p.0, row_now renamed p.1)

abbrev pub pairs_now : List ℕ → List (ℕ × ℕ) → List (ℕ × ℕ)
pairs_now renamed pairs = map (pair_now renamed) pairs

-- each row is listed, and each live row stands for itself
pub record IsCurrent (m : Content) (e : Entries) : Type 0 where
  pub count : length e.renamings ≡ made_of m
  pub live : (r : ℕ) → live_of m r ≡ true → row_now e.renamings r ≡ r

-- the same, where the last rows may not be listed yet
pub record IsBehind (m : Content) (e : Entries) : Type 0 where
  pub count : length e.renamings ≤ made_of m
  pub live : (r : ℕ) → live_of m r ≡ true → row_now e.renamings r ≡ r
