-- The nearest of some names.
use Rattle.std.specs.Prelude.{◌≡◌, ◌<◌, ◌≤◌, ◌+◌, ◌/◌, ℕ, List, Option, Some, None, length, slice_index_or}
use Rattle.std.specs.Str.{chars}
use Rattle.strsim.specs.Edits.{osa_table}
use Rattle.cq_base.specs.declared.name.Name.{Name}

-- how many edits make one name of the other: a character is put in, left out or replaced, or two neighbours are swapped
abbrev pub edits : Name → Name → ℕ
edits name other = (osa_table (chars name) (chars other)).last_row (length (chars other))

-- how many edits lead to a name that may have been meant: one for each three bytes
abbrev pub most_edits : Name → ℕ
most_edits name = length name / 3

-- no name is as near as that many edits
abbrev pub AreFarther : ℕ → Name → List Name → Type 0
AreFarther least name names = (k : ℕ) (d : Name) → k < length names → least ≤ edits name (slice_index_or names k d)

-- the name with a number is near, and none is nearer
pub record IsNearest (name : Name) (names : List Name) (number : ℕ) : Type 0 where
  pub found : Name
  pub within : number < length names
  pub there : found ≡ slice_index_or names number found
  pub near : edits name found ≤ most_edits name
  pub least : AreFarther (edits name found) name names

-- the nearest of the names by its number, or none where all are far
abbrev pub IsAnswer : Name → List Name → Option ℕ → Type 0
IsAnswer name names None = AreFarther (most_edits name + 1) name names
IsAnswer name names (Some number) = IsNearest name names number
