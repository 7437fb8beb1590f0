-- Tables of ids, and those of the files of a folder.
use Rattle.std.specs.Prelude.{ℕ, List, ◌≡◌, ◌<◌, length, slice_index_or}
use Rattle.std.specs.Map.{lookup}
use Rattle.cq_base.specs.Names.{number_of, same_name}
use Rattle.cq_import.specs.Records.{Record}
use Rattle.cq_import.specs.Rows.{ids_of, rows_of}
use Rattle.cq_cells.specs.declared.index.Indexed.{Indexed}
use Rattle.cq_cells.specs.declared.readings.Reading.{Reading}
use Rattle.cq_cells.specs.Readings.{reading_at, text_in}

-- the table tells of each id the first record that has it, numbered from 0
pub record IsIndexOf (ids : List (List ℕ)) (places : List (List ℕ × ℕ)) : Type 0 where
  pub finds : (id : List ℕ) → lookup (same_name id) places ≡ number_of ids id

-- the ids of some records are noted, and these are counted
abbrev pub AreRowsNoted : List Record → List (List ℕ × ℕ) → ℕ → Type 0
AreRowsNoted rows places count = IsIndexOf (ids_of rows) places × (count ≡ length rows)

-- the ids of a file, and how many records it has
pub record IsIndexed (text : List ℕ) (made : Indexed) : Type 0 where
  pub places : IsIndexOf (ids_of (rows_of text)) made.places
  pub count : made.count ≡ length (rows_of text)

-- one for each file that was read
pub record AreIndexed (readings : List Reading) (made : List Indexed) : Type 0 where
  pub many : length made ≡ length readings
  pub each : (entity : ℕ) (d : Indexed) → entity < length readings
      → IsIndexed (text_in (reading_at readings entity)) (slice_index_or made entity d)
