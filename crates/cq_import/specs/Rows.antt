-- The records of an entity's file, and the first fault in them that is seen without the other files.
use Rattle.std.specs.Prelude.{ℕ, Bool, true, false, not, List, [], ◌∷◌, ◌++◌, ◌+◌, ◌==◌, ◌&&◌, Option, Some, None, if◌then◌else◌, length}
use Rattle.std.specs.Prelude.{drop, map, is_some}
use Rattle.std.specs.List.{list_all}
use Rattle.std.specs.Str.{is_utf8}
use Rattle.std.specs.Cmp.Lexicographic.{pointwise}
use Rattle.cq_base.specs.Names.{same_name, number_of}
use Rattle.cq_import.specs.Faults.{Fault, NotCsv, BadHeader, BadCell, DoubleId, or_else}
use Rattle.cq_import.specs.Records.{Record, field_in, records_of}

abbrev pub same_record : Record → Record → Bool
same_record = pointwise same_name

abbrev pub id_of : Record → List ℕ
id_of fields = field_in fields 0

-- a record has so many fields, each of which is UTF-8
abbrev pub is_row : ℕ → Record → Bool
is_row width fields = (length fields == width) && list_all is_utf8 fields

-- a record by its number, where the records before it have these ids
abbrev pub row_fault : List ℕ → ℕ → List (List ℕ) → ℕ → Record → Option Fault
row_fault file width ids number fields =
    if not (is_row width fields) then Some (NotCsv file number)
    else (if length (id_of fields) == 0 then Some (BadCell file number 1)
    else (if is_some (number_of ids (id_of fields)) then Some (DoubleId file number)
    else None))

abbrev pub rows_fault : List ℕ → ℕ → List (List ℕ) → ℕ → List Record → Option Fault
rows_fault file width ids number [] = None
rows_fault file width ids number (fields ∷ rows) =
    or_else (row_fault file width ids number fields) (rows_fault file width (ids ++ id_of fields ∷ []) (number + 1) rows)

-- the first record is the header that the file must have, and each other one is a row with an id of its own
abbrev pub sheet_fault : List ℕ → Record → List Record → Option Fault
sheet_fault file wanted [] = Some (BadHeader file)
sheet_fault file wanted (first ∷ rows) = if same_record first wanted then rows_fault file (length wanted) [] 1 rows
    else Some (BadHeader file)

-- the rows of a file, and their ids
abbrev pub rows_of : List ℕ → List Record
rows_of text = drop 1 (records_of text)

abbrev pub ids_of : List Record → List (List ℕ)
ids_of rows = map id_of rows
