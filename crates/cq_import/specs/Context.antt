-- What cells are read over, and what reading some cells makes.
use Rattle.std.specs.Prelude.{ℕ, List, [], ◌∷◌, ◌++◌, ◌+◌, ◌≡◌, ◌≤◌, ◌<◌, Option, None, map, sum, length, string_bytes, IfSome}
use Rattle.std.specs.List.{flat_map}
use Rattle.cq_theory.specs.Canonical.{below}
use Rattle.cq_theory.specs.SchemaData.{SchemaData as Schema}
use Rattle.cq_theory.specs.TypesideData.{TypesideData as Typeside}
use Rattle.cq_import.specs.declared.cells.Cell.{Cell as RustCell}
use Rattle.cq_import.specs.declared.cells.Context.{Context}
use Rattle.cq_import.specs.declared.cells.Made.{Made}
use Rattle.cq_import.specs.declared.columns.Column.{Column}
use Rattle.cq_import.specs.declared.columns.Column.TheVariants.{Attribute, Key}
use Rattle.cq_import.specs.declared.entity_file.EntityFile.{EntityFile}
use Rattle.cq_import.specs.Cells.{Cell, Sheet, cell_equations, cell_fault, cell_uses, cells_fault, counts, equations_from, start_of}
use Rattle.cq_import.specs.Columns.{AreColumns}
use Rattle.cq_import.specs.Faults.{Fault}
use Rattle.cq_import.specs.Labels.{with_uses}
use Rattle.cq_import.specs.Rows.{rows_of}

abbrev pub sheet_in : EntityFile → Sheet
sheet_in file = record { file = string_bytes file.name; rows = rows_of file.text.items }

abbrev pub sheets_in : Context → List Sheet
sheets_in context = map sheet_in context.files.now

abbrev pub typeside_in : Context → Typeside
typeside_in context = context.schema.now.typeside

-- a cell of the program
abbrev pub shown_cell : RustCell → Cell
shown_cell cell = record {
  file = cell.file.now;
  row_number = cell.row_number;
  column_number = cell.column_number;
  generator = cell.generator;
  column = cell.column;
  field = cell.field.now;
}

-- one file, one list of columns and one start for each entity, and at most 16,000,000 generators with those of the labels
pub record IsContext (context : Context) : Type 0 where
  pub files : length context.files.now ≡ length context.schema.now.entities
  pub columns : AreColumns context.schema.now context.columns.now
  pub starts : context.starts.now ≡ map (start_of (sheets_in context)) (below (length context.schema.now.entities))
  pub first : context.first ≡ sum (counts (sheets_in context))
  pub few : context.first ≤ 16000000
  pub room : IfSome context.room (λ most. context.first + most ≤ 16000000)

-- the column leads to an entity or a type of the schema
abbrev pub IsColumn : Schema → Column → Type 0
IsColumn S (Attribute a type) = type < length S.typeside.types
IsColumn S (Key k target) = target < length S.entities

-- some cells without fault were read, one after the other
pub record Reads (context : Context) (old new : Made) (cells : List Cell) : Type 0 where
  pub fault : cells_fault (sheets_in context) (typeside_in context) context.room old.labels cells ≡ None
  pub labels : new.labels ≡ with_uses old.labels (flat_map (cell_uses (typeside_in context)) cells)
  pub equations : new.equations.items ≡ old.equations.items ++ equations_from (sheets_in context) (typeside_in context) context.first
      old.labels cells

abbrev pub fault_in : Context → Made → Cell → Option Fault
fault_in context made cell = cell_fault (sheets_in context) (typeside_in context) context.room made.labels cell

-- a cell without fault was read
pub record ReadsCell (context : Context) (old new : Made) (cell : Cell) : Type 0 where
  pub fault : fault_in context old cell ≡ None
  pub labels : new.labels ≡ with_uses old.labels (cell_uses (typeside_in context) cell)
  pub equations : new.equations.items ≡ old.equations.items ++ cell_equations (sheets_in context) (typeside_in context) context.first
      new.labels cell

-- the first thing that is wrong in some cells
abbrev pub faults_in : Context → Made → List Cell → Option Fault
faults_in context made cells = cells_fault (sheets_in context) (typeside_in context) context.room made.labels cells
