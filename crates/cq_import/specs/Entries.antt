-- The file of the nulls and the entries, and what a folder with it presents.
use Rattle.std.specs.Prelude.{ℕ, Bool, List, [], ◌∷◌, ◌++◌, ◌+◌, ◌≡◌, ◌⊎◌, Option, Some, None, Result, Ok, Err, if◌then◌else◌, length, map}
use Rattle.std.specs.Prelude.{filter, unwrap_or, codes, string_bytes, is_some, option_and_then}
use Rattle.std.specs.List.{flat_map}
use Rattle.cq_base.specs.declared.name.Name.{Name}
use Rattle.cq_base.specs.Names.{number_of, same_name}
use Rattle.cq_io.specs.Content.{File, find_file}
use Rattle.cq_theory.specs.declared.presentation.Equation.{Equation}
use Rattle.cq_theory.specs.declared.presentation.Equation.TheVariants.{Typ}
use Rattle.cq_theory.specs.declared.presentation.Presentation.{Presentation}
use Rattle.cq_theory.specs.declared.presentation.Sort.TheVariants.{Plain}
use Rattle.cq_theory.specs.declared.value.Value.{Value}
use Rattle.cq_theory.specs.Canonical.{named}
use Rattle.cq_theory.specs.SchemaData.{SchemaData as Schema}
use Rattle.cq_theory.specs.TypesideData.{TypesideData as Typeside}
use Rattle.cq_values.specs.Built.{built_in, label_in}
use Rattle.cq_values.specs.Reading.{as_name, value_in}
use Rattle.cq_import.specs.declared.labels.Trouble.{Trouble}
use Rattle.cq_import.specs.declared.refusal.CsvRefusal.{CsvRefusal}
use Rattle.cq_import.specs.declared.refusal.CsvRefusal.TheVariants as refusal
use Rattle.cq_import.specs.Cells.{Sheet, all_cells, cells_fault, equations_from}
use Rattle.cq_import.specs.Faults.{Fault, BadCell, BadHeader, NotCsv, or_else, told}
use Rattle.cq_import.specs.Imports.{IsNext, file_name, files_fault, reading_fault, row_sorts, sheets_of, size_fault, total}
use Rattle.cq_import.specs.Labels.{Labels, Use, type_of_label, uses_in, uses_trouble, value_term}
use Rattle.cq_import.specs.Records.{Record, field_in, records_of}
use Rattle.cq_import.specs.Rows.{is_row, rows_of, same_record}

abbrev pub entries_file : Name → List ℕ
entries_file dir = file_name dir (codes "entries-2")

-- the first record: the mark of the format
abbrev pub mark : Record
mark = codes "format-2" ∷ codes "left" ∷ codes "right" ∷ []

-- what the first column says of a record
abbrev pub is_null : Record → Bool
is_null fields = same_name (field_in fields 0) (codes "null")

abbrev pub is_entry : Record → Bool
is_entry fields = same_name (field_in fields 0) (codes "entry")

-- a record by its number: three fields, each of which is UTF-8
abbrev pub line_fault : List ℕ → ℕ → Record → Option Fault
line_fault file number fields = if is_row 3 fields then None else Some (NotCsv file number)

abbrev pub lines_fault : List ℕ → ℕ → List Record → Option Fault
lines_fault file number [] = None
lines_fault file number (fields ∷ lines) = or_else (line_fault file number fields) (lines_fault file (number + 1) lines)

-- the first record is the mark, and each other one has three fields
abbrev pub marked_fault : List ℕ → List Record → Option Fault
marked_fault file [] = Some (BadHeader file)
marked_fault file (first ∷ lines) = if same_record first mark then lines_fault file 1 lines else Some (BadHeader file)

abbrev pub or_bad : Option ℕ → Fault → Option Fault
or_bad None fault = Some fault
or_bad (Some found) fault = None

abbrev pub is_new : Labels → Option ℕ → Option ℕ
is_new labels None = None
is_new labels (Some label) = if is_some (type_of_label labels label) then None else Some label

abbrev pub type_named : Typeside → List ℕ → Option ℕ
type_named T name = option_and_then (number_of T.types) (as_name name)

abbrev pub trouble_in : Option Trouble → Fault → Option Fault
trouble_in None fault = None
trouble_in (Some trouble) fault = Some fault

module _ (T : Typeside) where
  -- the label and the type of a null's record
  abbrev pub null_use : Record → Use
  null_use fields = (unwrap_or (label_in (field_in fields 1)) 0, unwrap_or (type_named T (field_in fields 2)) 0)

  abbrev pub with_null : Labels → Record → Labels
  with_null labels fields = if is_null fields then labels ++ null_use fields ∷ [] else labels

  -- the labels of the nulls' records, in order
  abbrev pub given : List Record → Labels
  given lines = map null_use (filter is_null lines)

  module _ (file : List ℕ) where
    -- a null has a label that didn't stand before, and the name of a type
    abbrev pub null_fault : Labels → ℕ → Record → Option Fault
    null_fault labels number fields =
        or_else (or_bad (is_new labels (label_in (field_in fields 1))) (BadCell file number 2))
        (or_bad (type_named T (field_in fields 2)) (BadCell file number 3))

    -- a record is a null's or an entry's
    abbrev pub kind_fault : Labels → ℕ → Record → Option Fault
    kind_fault labels number fields =
        if is_null fields then null_fault labels number fields else (if is_entry fields then None else Some (BadCell file number 1))

    -- the first fault in the first columns and in the nulls' records, where these labels stood before
    abbrev pub nulls_fault : Labels → ℕ → List Record → Option Fault
    nulls_fault labels number [] = None
    nulls_fault labels number (fields ∷ lines) = or_else (kind_fault labels number fields)
        (nulls_fault (with_null labels fields) (number + 1) lines)

    -- each label in a value is given, with the type of its place
    abbrev pub uses_fault : Labels → ℕ → ℕ → Value → ℕ → Option Fault
    uses_fault labels number column v type = trouble_in (uses_trouble None labels (uses_in T v type)) (BadCell file number column)

    abbrev pub right_fault : Labels → ℕ → ℕ → Option Value → Option Fault
    right_fault labels number type None = Some (BadCell file number 3)
    right_fault labels number type (Some w) = uses_fault labels number 3 w type

    abbrev pub sides_fault : Labels → ℕ → Option (ℕ × Value) → List ℕ → Option Fault
    sides_fault labels number None right = Some (BadCell file number 2)
    sides_fault labels number (Some left) right = or_else (uses_fault labels number 2 left.1 left.0)
        (right_fault labels number left.0 (value_in T left.0 right))

    -- an entry has a built value, and a value of its type, over labels that are given
    abbrev pub entry_fault : Labels → ℕ → Record → Option Fault
    entry_fault labels number fields = if is_entry fields then sides_fault labels number (built_in T (field_in fields 1))
        (field_in fields 2) else None

    abbrev pub entries_fault : Labels → ℕ → List Record → Option Fault
    entries_fault labels number [] = None
    entries_fault labels number (fields ∷ lines) = or_else (entry_fault labels number fields) (entries_fault labels (number + 1) lines)

  -- an entry says that both values are equal
  module _ (first : ℕ) (labels : Labels) where
    abbrev pub right_equations : Value → Option Value → List Equation
    right_equations v None = []
    right_equations v (Some w) = Typ (value_term first labels v) (value_term first labels w) ∷ []

    abbrev pub sides_equations : Option (ℕ × Value) → List ℕ → List Equation
    sides_equations None right = []
    sides_equations (Some left) right = right_equations left.1 (value_in T left.0 right)

    abbrev pub entry_equations : Record → List Equation
    entry_equations fields = if is_entry fields then sides_equations (built_in T (field_in fields 1)) (field_in fields 2) else []

module _ (S : Schema) (sheets : List Sheet) (lines : List Record) where
  -- one generator for each record of the entities' files and for each null's record would be too many
  abbrev pub size2_fault : Option Fault
  size2_fault = size_fault (total S sheets + length (filter is_null lines))

  abbrev pub labels2_of : Labels
  labels2_of = given S.typeside lines

  -- where these labels are given: what is wrong in the cells of the other files, and then in the records of entries
  abbrev pub rest_fault : Labels → List ℕ → Option Fault
  rest_fault labels file = or_else (cells_fault sheets S.typeside None labels (all_cells S sheets))
      (entries_fault S.typeside file labels 1 lines)

  abbrev pub rest_equations : ℕ → Labels → List Equation
  rest_equations first labels = equations_from sheets S.typeside first labels (all_cells S sheets)
      ++ flat_map (entry_equations S.typeside first labels) lines

  -- what is wrong in the records: those of nulls, then the cells of the other files, then those of entries
  abbrev pub contents2_fault : List ℕ → Option Fault
  contents2_fault file = or_else (nulls_fault S.typeside file [] 1 lines) (rest_fault labels2_of file)

  -- what is wrong when all files are read
  abbrev pub sheets2_fault : List ℕ → Option Fault
  sheets2_fault file = or_else size2_fault (contents2_fault file)

  abbrev pub equations2_of : List Equation
  equations2_of = rest_equations (total S sheets) labels2_of

  -- Generators: one for each record of the entities' files, by entity and record, and then one for each null's record.
  -- Equations: those of the cells, by entity, record and column, and then those of the entries.
  abbrev pub presented2 : Presentation
  presented2 = record {
    generators = named (row_sorts S sheets ++ map (λ u. Plain u.1) labels2_of);
    equations = equations2_of;
  }

-- over some files, and the text of the file of the nulls and the entries
module _ (files : List File) (text : Option (List ℕ)) (dir : Name) (S : Schema) where
  abbrev pub text_records : List Record
  text_records = records_of (unwrap_or text [])

  abbrev pub text_lines : List Record
  text_lines = rows_of (unwrap_or text [])

  -- the first fault: the entities' files are read and tested, then the file of the nulls and the entries, then what stands in them
  abbrev pub fault2_over : Option Fault
  fault2_over =
      or_else (files_fault files dir S (length S.entities))
      (or_else (reading_fault (entries_file dir) text)
      (or_else (marked_fault (entries_file dir) text_records)
      (sheets2_fault S (sheets_of files dir S) text_lines (entries_file dir))))

  abbrev pub imported2_over : Presentation
  imported2_over = presented2 S (sheets_of files dir S) text_lines

  -- the file under this name is read next, and all that is tested before passes
  abbrev pub IsNext2 : List ℕ → Type 0
  IsNext2 file = IsNext files dir S file ⊎ ((entries_file dir ≡ file) × (files_fault files dir S (length S.entities) ≡ None))

  -- The answer over these: what they present, where there is no fault; or the first fault; or a read that failed, of the file that is
  -- read next; or want of memory.
  abbrev pub IsImport2Over : Result Presentation CsvRefusal → Type 0
  IsImport2Over (Ok made) = (fault2_over ≡ None) × (made ≡ imported2_over)
  IsImport2Over (Err refusal.Memory) = Unit {0}
  IsImport2Over (Err (refusal.ReadFault file)) = IsNext2 (string_bytes file)
  IsImport2Over (Err r) = fault2_over ≡ Some (told r)

module _ (files : List File) (dir : Name) where
  -- the text of the file of the nulls and the entries
  abbrev pub entries_text : Option (List ℕ)
  entries_text = find_file (entries_file dir) files

  module _ (S : Schema) where
    -- the first fault of a folder
    abbrev pub fault2_of : Option Fault
    fault2_of = fault2_over files entries_text dir S

    -- what a folder without fault presents
    abbrev pub imported2 : Presentation
    imported2 = imported2_over files entries_text dir S

    abbrev pub IsImport2 : Result Presentation CsvRefusal → Type 0
    IsImport2 = IsImport2Over files entries_text dir S

-- The claim holds of the files that a folder tells; where it tells none, of some files, and of some text that stood in the file of the
-- nulls and the entries when it was read.
abbrev pub OfFiles2 : Option (List File) → Name → (List File → Option (List ℕ) → Type 0) → Type 0
OfFiles2 None dir P = (files : List File) × (text : Option (List ℕ)) × P files text
OfFiles2 (Some files) dir P = P files (entries_text files dir)
