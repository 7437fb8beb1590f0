-- All faults of some records and of some cells, of which import tells the first.
use Rattle.std.specs.Prelude.{ℕ, List, [], ◌∷◌, ◌++◌, ◌+◌, Option, Some, None, if◌then◌else◌, length}
use Rattle.cq_base.specs.Names.{number_of}
use Rattle.cq_theory.specs.TypesideData.{TypesideData as Typeside}
use Rattle.cq_import.specs.declared.labels.Trouble.{Trouble}
use Rattle.cq_import.specs.Cells.{Cell, Sheet, cell_fault, cell_uses}
use Rattle.cq_import.specs.Faults.{Fault, BadHeader}
use Rattle.cq_import.specs.Labels.{Labels, Room, uses_trouble, with_uses}
use Rattle.cq_import.specs.Records.{Record}
use Rattle.cq_import.specs.Rows.{id_of, row_fault, same_record}

-- a fault as import tells it; where it is a record's, the first record with the same id before it, numbered from 0
pub record Found : Type 0 where
  pub fault : Fault
  pub before : Option ℕ

abbrev pub found_in : Option Fault → Option ℕ → List Found
found_in None before = []
found_in (Some fault) before = record { fault = fault; before = before } ∷ []

-- the faults of some records of a file, where those before them have these ids
abbrev pub rows_found : List ℕ → ℕ → List (List ℕ) → ℕ → List Record → List Found
rows_found file width ids number [] = []
rows_found file width ids number (fields ∷ rows) =
    found_in (row_fault file width ids number fields) (number_of ids (id_of fields))
    ++ rows_found file width (ids ++ id_of fields ∷ []) (number + 1) rows

-- the faults of a file's records, the first of which has to be this header; behind another header nothing is told
abbrev pub sheet_found : List ℕ → Record → List Record → List Found
sheet_found file wanted [] = found_in (Some (BadHeader file)) None
sheet_found file wanted (first ∷ rows) = if same_record first wanted then rows_found file (length wanted) [] 1 rows
    else found_in (Some (BadHeader file)) None

abbrev pub behind_trouble : Option Trouble → List Found → List Found
behind_trouble None found = found
behind_trouble (Some trouble) found = []

-- The faults of some cells, where these labels have appeared before them. Behind a label that is wrong in its place nothing is told:
-- which of two types it has is open.
abbrev pub cells_found : List Sheet → Typeside → Room → Labels → List Cell → List Found
cells_found sheets T room labels [] = []
cells_found sheets T room labels (cell ∷ cells) =
    found_in (cell_fault sheets T room labels cell) None
    ++ behind_trouble (uses_trouble room labels (cell_uses T cell)) (cells_found sheets T room (with_uses labels (cell_uses T cell)) cells)
