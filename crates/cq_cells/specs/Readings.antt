-- What was read of the files of a folder, and all faults in it.
use Rattle.std.specs.Prelude.{ℕ, List, [], ◌∷◌, ◌-◌, ◌≡◌, ◌<◌, ◌≤◌, Option, Some, None, if◌then◌else◌, nat_lt, length, map, unwrap_or}
use Rattle.std.specs.Prelude.{slice_get}
use Rattle.std.specs.List.{flat_map}
use Rattle.cq_base.specs.declared.name.Name.{Name}
use Rattle.cq_io.specs.Content.{File, find_file}
use Rattle.cq_io.specs.Reads.{IsLonger}
use Rattle.cq_theory.specs.SchemaData.{SchemaData as Schema}
use Rattle.cq_theory.specs.Canonical.{below}
use Rattle.cq_import.specs.Cells.{Sheet, all_cells}
use Rattle.cq_import.specs.Columns.{header}
use Rattle.cq_import.specs.Faults.{Fault, Absent as AbsentFault, TooLong as TooLongFault, TooLarge}
use Rattle.cq_import.specs.Folders.{name_of}
use Rattle.cq_import.specs.Imports.{most_bytes, most_generators, total}
use Rattle.cq_import.specs.Records.{Record, records_of}
use Rattle.cq_import.specs.Rows.{rows_of}
use Rattle.cq_cells.specs.declared.readings.Reading.{Reading}
use Rattle.cq_cells.specs.declared.readings.Reading.TheVariants.{Absent, TooLong, Text}
use Rattle.cq_cells.specs.Found.{Found, cells_found, found_in, sheet_found}

abbrev pub text_in : Reading → List ℕ
text_in Absent = []
text_in TooLong = []
text_in (Text text) = text.items

abbrev pub reading_at : List Reading → ℕ → Reading
reading_at readings entity = unwrap_or (slice_get readings entity) Absent

-- the faults of a file before the other files are read
abbrev pub reading_found : List ℕ → Record → Reading → List Found
reading_found file wanted Absent = found_in (Some (AbsentFault file)) None
reading_found file wanted TooLong = found_in (Some (TooLongFault file)) None
reading_found file wanted (Text text) = sheet_found file wanted (records_of text.items)

abbrev pub or_else_found : List Found → List Found → List Found
or_else_found [] found = found
or_else_found (first ∷ others) found = first ∷ others

-- over the names of the files by the numbers of their entities
module _ (name : ℕ → List ℕ) (S : Schema) (readings : List Reading) where
  abbrev pub file_found : ℕ → List Found
  file_found entity = reading_found (name entity) (header S entity) (reading_at readings entity)

  -- the faults of all files, each read by itself
  abbrev pub files_found : List Found
  files_found = flat_map file_found (below (length S.entities))

  abbrev pub sheet_read : ℕ → Sheet
  sheet_read entity = record { file = name entity; rows = rows_of (text_in (reading_at readings entity)) }

  abbrev pub sheets_read : List Sheet
  sheets_read = map sheet_read (below (length S.entities))

  -- the faults of all cells, where there aren't too many records
  abbrev pub contents_found : List Found
  contents_found = if nat_lt most_generators (total S sheets_read) then found_in (Some TooLarge) None
      else cells_found sheets_read S.typeside (Some (most_generators - total S sheets_read)) [] (all_cells S sheets_read)

  -- the faults of a folder: those of the files; where there are none, those of the cells
  abbrev pub folder_found : List Found
  folder_found = or_else_found files_found contents_found

-- the first of some faults
abbrev pub first_of : List Found → Option Fault
first_of [] = None
first_of (found ∷ others) = Some found.fault

-- what was read under a name is what is there
abbrev pub IsReading : List File → List ℕ → Reading → Type 0
IsReading files name Absent = find_file name files ≡ None
IsReading files name TooLong = IsLonger name most_bytes files
IsReading files name (Text text) = (find_file name files ≡ Some text.items) × (length text.items ≤ most_bytes)

-- one reading for each entity, of its file
pub record AreReadings (files : List File) (dir : Name) (S : Schema) (readings : List Reading) : Type 0 where
  pub count : length readings ≡ length S.entities
  pub each : (entity : ℕ) → entity < length S.entities → IsReading files (name_of dir S entity) (reading_at readings entity)
