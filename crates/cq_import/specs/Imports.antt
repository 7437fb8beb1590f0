-- What a folder of files presents, or the first fault in it.
use Rattle.std.specs.Prelude.{ℕ, Bool, List, [], ◌∷◌, ◌++◌, ◌+◌, ◌-◌, ◌*◌, ◌<◌, ◌≡◌, Option, Some, None, Result, Ok, Err, if◌then◌else◌}
use Rattle.std.specs.Prelude.{nat_lt, length, map, sum, replicate, unwrap_or, codes, string_bytes, slice_get}
use Rattle.std.specs.List.{flat_map}
use Rattle.cq_base.specs.declared.name.Name.{Name}
use Rattle.cq_io.specs.Content.{File, find_file}
use Rattle.cq_theory.specs.declared.presentation.Presentation.{Presentation}
use Rattle.cq_theory.specs.declared.presentation.Sort.{Sort}
use Rattle.cq_theory.specs.declared.presentation.Sort.TheVariants.{Plain, Entity}
use Rattle.cq_theory.specs.SchemaData.{SchemaData as Schema}
use Rattle.cq_theory.specs.Canonical.{below, named}
use Rattle.cq_import.specs.declared.refusal.CsvRefusal.{CsvRefusal}
use Rattle.cq_import.specs.declared.refusal.CsvRefusal.TheVariants as refusal
use Rattle.cq_import.specs.Cells.{Sheet, all_cells, cell_uses, equations_from, cells_fault, counts, rows_at}
use Rattle.cq_import.specs.Columns.{header}
use Rattle.cq_import.specs.Faults.{Fault, Absent, TooLong, TooLarge, or_else, first_fault, told}
use Rattle.cq_import.specs.Labels.{Labels, with_uses}
use Rattle.cq_import.specs.Records.{records_of}
use Rattle.cq_import.specs.Rows.{rows_of, sheet_fault}

-- the most bytes of a file, and the most generators of a presentation
abbrev pub most_bytes : ℕ
most_bytes = 64 * 1024 * 1024

abbrev pub most_generators : ℕ
most_generators = 16000000

-- a file of the folder with this name
abbrev pub file_name : List ℕ → List ℕ → List ℕ
file_name folder file = folder ++ codes "/" ++ file ++ codes ".csv"

-- a file is there, and isn't too long
abbrev pub reading_fault : List ℕ → Option (List ℕ) → Option Fault
reading_fault file None = Some (Absent file)
reading_fault file (Some text) = if nat_lt most_bytes (length text) then Some (TooLong file) else None

abbrev pub name_at : Option Name → Name
name_at None = []
name_at (Some name) = name

module _ (files : List File) (dir : Name) (S : Schema) where
  -- the name of an entity's file
  abbrev pub file_of : ℕ → List ℕ
  file_of entity = file_name dir (name_at (slice_get S.entities entity))

  abbrev pub text_of : ℕ → List ℕ
  text_of entity = unwrap_or (find_file (file_of entity) files) []

  -- an entity's file is read and tested
  abbrev pub file_fault : ℕ → Option Fault
  file_fault entity =
      or_else (reading_fault (file_of entity) (find_file (file_of entity) files))
      (sheet_fault (file_of entity) (header S entity) (records_of (text_of entity)))

  -- the first fault of the files of so many entities
  abbrev pub files_fault : ℕ → Option Fault
  files_fault count = first_fault (map file_fault (below count))

  abbrev pub sheet_of : ℕ → Sheet
  sheet_of entity = record { file = file_of entity; rows = rows_of (text_of entity) }

  abbrev pub sheets_of : List Sheet
  sheets_of = map sheet_of (below (length S.entities))

-- one generator for each record would be too many
abbrev pub size_fault : ℕ → Option Fault
size_fault count = if nat_lt most_generators count then Some TooLarge else None

abbrev pub entity_sorts : List Sheet → ℕ → List Sort
entity_sorts sheets entity = replicate (length (rows_at sheets entity)) (Entity entity)

module _ (S : Schema) (sheets : List Sheet) where
  abbrev pub total : ℕ
  total = sum (counts sheets)

  -- the labels in all cells, in order of first appearance
  abbrev pub labels_of : Labels
  labels_of = with_uses [] (flat_map (cell_uses S.typeside) (all_cells S sheets))

  -- one generator for each record
  abbrev pub row_sorts : List Sort
  row_sorts = flat_map (entity_sorts sheets) (below (length S.entities))

  -- what is wrong when all files are read
  abbrev pub sheets_fault : Option Fault
  sheets_fault = or_else (size_fault total) (cells_fault sheets S.typeside (Some (most_generators - total)) [] (all_cells S sheets))

  -- Generators: one for each record, by entity and record, and then one for each label, in order of first appearance.
  -- Equations: those of the cells, by entity, record and column.
  abbrev pub presented : Presentation
  presented = record {
    generators = named (row_sorts ++ map (λ u. Plain u.1) labels_of);
    equations = equations_from sheets S.typeside total [] (all_cells S sheets);
  }

module _ (files : List File) (dir : Name) (S : Schema) where
  -- the first fault of a folder: each entity's file is read and tested in turn, then the records are counted, then the cells are read
  abbrev pub fault_of : Option Fault
  fault_of = or_else (files_fault files dir S (length S.entities)) (sheets_fault S (sheets_of files dir S))

  -- what a folder without fault presents
  abbrev pub imported : Presentation
  imported = presented S (sheets_of files dir S)

  -- the file under this name is read next, and all that is tested before passes
  pub record IsNext (file : List ℕ) : Type 0 where
    pub entity : ℕ
    pub within : entity < length S.entities
    pub named : file_of files dir S entity ≡ file
    pub passed : files_fault files dir S entity ≡ None

  -- The answer over these files: what they present, where there is no fault; or the first fault; or a read that failed, of the file
  -- that is read next; or want of memory.
  abbrev pub IsImport : Result Presentation CsvRefusal → Type 0
  IsImport (Ok made) = (fault_of ≡ None) × (made ≡ imported)
  IsImport (Err refusal.Memory) = Unit {0}
  IsImport (Err (refusal.ReadFault file)) = IsNext (string_bytes file)
  IsImport (Err r) = fault_of ≡ Some (told r)

-- the claim holds of the files that a folder tells, and of some files where it tells none
abbrev pub OfFiles : Option (List File) → (List File → Type 0) → Type 0
OfFiles None P = (files : List File) × P files
OfFiles (Some files) P = P files

-- the claim holds where this is the answer
abbrev pub IfAbsent : {A : Type 0} → Result A CsvRefusal → Type 0 → Type 0
IfAbsent (Err (refusal.Absent file)) P = P
IfAbsent _ P = Unit {0}

abbrev pub IfReadFault : {A : Type 0} → Result A CsvRefusal → Type 0 → Type 0
IfReadFault (Err (refusal.ReadFault file)) P = P
IfReadFault _ P = Unit {0}

abbrev pub IfTooLong : {A : Type 0} → Result A CsvRefusal → Type 0 → Type 0
IfTooLong (Err (refusal.TooLong file)) P = P
IfTooLong _ P = Unit {0}
