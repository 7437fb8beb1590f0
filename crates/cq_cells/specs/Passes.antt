-- What is told as cells are read one after the other.
use Rattle.std.specs.Prelude.{ℕ, List, ◌++◌, ◌≡◌, Some, map, take, length, if◌then◌else◌}
use Rattle.cq_theory.specs.TypesideData.{TypesideData as Typeside}
use Rattle.cq_import.specs.Cells.{Cell, Sheet}
use Rattle.cq_import.specs.Columns.{AreColumns}
use Rattle.cq_cells.specs.declared.cells.Cell.{Cell as RustCell}
use Rattle.cq_cells.specs.declared.cells.Over.{Over}
use Rattle.cq_cells.specs.declared.cells.Pass.{Pass}
use Rattle.cq_cells.specs.Found.{Found, cells_found}
use Rattle.cq_cells.specs.Index.{AreIndexed}
use Rattle.cq_cells.specs.Readings.{sheets_read}
use Rattle.cq_cells.specs.Shown.{most_faults, shown}

-- a cell of the program, over the names of the files
abbrev pub cell_shown : ℕ → RustCell → (ℕ → List ℕ) → Cell
cell_shown generator cell name = record {
  file = name cell.file;
  row_number = cell.number;
  column_number = cell.place;
  generator = generator;
  column = cell.column;
  field = cell.field.now;
}

-- one reading, one list of columns and one table of ids for each entity
pub record IsOver (over : Over) : Type 0 where
  pub readings : length over.readings.now ≡ length over.schema.now.entities
  pub columns : AreColumns over.schema.now over.columns.now
  pub indexed : AreIndexed over.readings.now over.indexed.now

abbrev pub sheets_over : Over → (ℕ → List ℕ) → List Sheet
sheets_over over name = sheets_read name over.schema.now over.readings.now

abbrev pub typeside_over : Over → Typeside
typeside_over over = over.schema.now.typeside

-- what will be listed once these cells are read too
abbrev pub told_with : Over → (ℕ → List ℕ) → Pass → List Cell → List Found
told_with over name pass cells = if pass.going
    then take most_faults (map (shown name) pass.faults
    ++ cells_found (sheets_over over name) (typeside_over over) (Some over.most) pass.labels cells)
    else take most_faults (map (shown name) pass.faults)

-- whatever cells are read too, nothing more will be listed
abbrev pub TellsNoMore : Over → Pass → Type 0
TellsNoMore over pass = (name : ℕ → List ℕ) (others : List Cell)
    → told_with over name pass others ≡ take most_faults (map (shown name) pass.faults)

-- these cells were read: with any others behind them the same will be listed
abbrev pub Passes : Over → Pass → Pass → ((ℕ → List ℕ) → List Cell) → Type 0
Passes over old new cells = (name : ℕ → List ℕ) (others : List Cell)
    → told_with over name new others ≡ told_with over name old (cells name ++ others)
