-- What stands in the cells of the files, and what is wrong in them.
use Rattle.std.specs.Prelude.{ℕ, Bool, List, [], ◌∷◌, ◌++◌, ◌+◌, ◌-◌, ◌==◌, ◌&&◌, Option, Some, None, if◌then◌else◌, nat_le, length, map}
use Rattle.std.specs.Prelude.{sum, take, slice_get, slice_index, slice_index_or}
use Rattle.std.specs.List.{flat_map, enumerate_from}
use Rattle.cq_base.specs.Names.{number_of}
use Rattle.cq_theory.specs.declared.constant.Con.{Con}
use Rattle.cq_theory.specs.declared.constant.Con.TheVariants.{Named, Open}
use Rattle.cq_theory.specs.declared.presentation.Equation.{Equation}
use Rattle.cq_theory.specs.declared.presentation.Equation.TheVariants.{Ent, Typ}
use Rattle.cq_theory.specs.declared.term.EntTerm.{EntTerm}
use Rattle.cq_theory.specs.declared.term.TypeTerm.TheVariants as term
use Rattle.cq_theory.specs.declared.value.Value.{Value}
use Rattle.cq_theory.specs.declared.value.Value.TheVariants as value
use Rattle.cq_theory.specs.TypesideData.{TypesideData as Typeside}
use Rattle.cq_theory.specs.SchemaData.{SchemaData as Schema}
use Rattle.cq_theory.specs.Canonical.{below}
use Rattle.cq_theory.specs.Sorts.{is_type}
use Rattle.cq_theory.specs.Typeside.{constant_names, constant_type}
use Rattle.cq_values.specs.Readable.{is_name}
use Rattle.cq_values.specs.Reading.{value_in}
use Rattle.cq_import.specs.declared.columns.Column.{Column}
use Rattle.cq_import.specs.declared.columns.Column.TheVariants.{Attribute, Key}
use Rattle.cq_import.specs.declared.content.Content.{Content}
use Rattle.cq_import.specs.declared.content.Content.TheVariants.{Blank, Wrong, Means}
use Rattle.cq_import.specs.Columns.{columns}
use Rattle.cq_import.specs.Faults.{Fault, BadCell, NoSuchId, TooLarge, or_else}
use Rattle.cq_import.specs.declared.labels.Trouble.{Trouble}
use Rattle.cq_import.specs.declared.labels.Trouble.TheVariants as trouble
use Rattle.cq_import.specs.Labels.{Use, Labels, Room, uses_in, uses_trouble, with_uses, value_term}
use Rattle.cq_import.specs.Records.{Record, field_in}
use Rattle.cq_import.specs.Rows.{ids_of}

-- the rows of an entity's file, under its name
pub record Sheet : Type 0 where
  pub file : List ℕ
  pub rows : List Record

pub record Cell : Type 0 where
  pub file : List ℕ
  -- the numbers of the record and of the column, from 1
  pub row_number : ℕ
  pub column_number : ℕ
  -- the generator of the record
  pub generator : ℕ
  pub column : Column
  pub field : List ℕ

abbrev pub found : Option Value → Content
found None = Wrong
found (Some v) = Means v

abbrev pub typed_constant : Typeside → ℕ → Con → Content
typed_constant T type c = if is_type (constant_type T c) type then Means (value.Const c) else Wrong

-- the declared constant with this content; where none is declared, the open one
abbrev pub named_constant : List ℕ → Option ℕ → Con
named_constant text None = Open text
named_constant text (Some c) = Named c

abbrev pub constant_of_name : Typeside → ℕ → List ℕ → Content
constant_of_name T type name = typed_constant T type (named_constant name (number_of (constant_names T) name))

-- a content of at most 255 bytes of UTF-8
abbrev pub constant_content : Typeside → ℕ → List ℕ → Content
constant_content T type text = if is_name text then constant_of_name T type text else Wrong

-- What stands in an attribute's column: nothing, where the field is empty; behind `=` a value by its text; where the field begins with `?`,
-- a null by its text; else a constant by its content.
abbrev pub content_of : Typeside → ℕ → List ℕ → Content
content_of T type [] = Blank
content_of T type (first ∷ rest) =
    if first == 63 then found (value_in T type (first ∷ rest))
    else (if first == 61 then found (value_in T type rest) else constant_content T type (first ∷ rest))

abbrev pub uses_of : Typeside → ℕ → Content → List Use
uses_of T type (Means v) = uses_in T v type
uses_of T type Blank = []
uses_of T type Wrong = []

-- the labels in a field, with their types
abbrev pub column_uses : Typeside → List ℕ → Column → List Use
column_uses T field (Attribute a type) = uses_of T type (content_of T type field)
column_uses T field (Key k target) = []

abbrev pub cell_uses : Typeside → Cell → List Use
cell_uses T cell = column_uses T cell.field cell.column

abbrev pub trouble_fault : Cell → Option Trouble → Option Fault
trouble_fault cell None = None
trouble_fault cell (Some trouble.Wrong) = Some (BadCell cell.file cell.row_number cell.column_number)
trouble_fault cell (Some trouble.Full) = Some TooLarge

abbrev pub content_fault : Typeside → Room → Labels → Cell → ℕ → Content → Option Fault
content_fault T room labels cell type Blank = None
content_fault T room labels cell type Wrong = Some (BadCell cell.file cell.row_number cell.column_number)
content_fault T room labels cell type (Means v) = trouble_fault cell (uses_trouble room labels (uses_in T v type))

abbrev pub missing_id : Cell → Option ℕ → Option Fault
missing_id cell None = Some (NoSuchId cell.file cell.row_number cell.column_number)
missing_id cell (Some row) = None

abbrev pub rows_in : Option Sheet → List Record
rows_in None = []
rows_in (Some sheet) = sheet.rows

abbrev pub file_in : Option Sheet → List ℕ
file_in None = []
file_in (Some sheet) = sheet.file

-- the cell of a record in a column, which comes with its number
abbrev pub cell_in : List ℕ → ℕ → ℕ → Record → ℕ × Column → Cell
cell_in file generator number fields c =
    record { file = file; row_number = number; column_number = c.0; generator = generator; column = c.1; field = field_in fields (c.0 - 1) }

-- the cells of a record, whose columns are numbered from 1 with the column of ids
abbrev pub row_cells : List ℕ → List Column → ℕ → ℕ → Record → List Cell
row_cells file columns generator number fields = map (cell_in file generator number fields) (enumerate_from 2 columns)

-- the cells of some records, from a generator and a number on
abbrev pub rows_cells : List ℕ → List Column → ℕ → ℕ → List Record → List Cell
rows_cells file columns generator number [] = []
rows_cells file columns generator number (fields ∷ rows) =
    row_cells file columns generator number fields ++ rows_cells file columns (generator + 1) (number + 1) rows

-- the rows of each entity
module _ (sheets : List Sheet) where
  abbrev pub rows_at : ℕ → List Record
  rows_at entity = rows_in (slice_get sheets entity)

  abbrev pub counts : List ℕ
  counts = map (λ sheet. length sheet.rows) sheets

  -- the generator of an entity's first record: those of the entities before it come first
  abbrev pub start_of : ℕ → ℕ
  start_of entity = sum (take entity counts)

  -- the record of an entity with this id
  abbrev pub row_with_id : ℕ → List ℕ → Option ℕ
  row_with_id entity id = number_of (ids_of (rows_at entity)) id

  abbrev pub key_fault : Cell → ℕ → List ℕ → Option Fault
  key_fault cell target [] = None
  key_fault cell target (first ∷ rest) = missing_id cell (row_with_id target (first ∷ rest))

  -- what is wrong in a cell, where these labels have appeared before it
  abbrev pub column_fault : Typeside → Room → Labels → Cell → Column → Option Fault
  column_fault T room labels cell (Attribute a type) = content_fault T room labels cell type (content_of T type cell.field)
  column_fault T room labels cell (Key k target) = key_fault cell target cell.field

  abbrev pub cell_fault : Typeside → Room → Labels → Cell → Option Fault
  cell_fault T room labels cell = column_fault T room labels cell cell.column

  -- the first thing that is wrong in some cells in order
  abbrev pub cells_fault : Typeside → Room → Labels → List Cell → Option Fault
  cells_fault T room labels [] = None
  cells_fault T room labels (cell ∷ cells) = or_else (cell_fault T room labels cell)
      (cells_fault T room (with_uses labels (cell_uses T cell)) cells)

  -- the attribute of the record's generator is the value in the cell
  abbrev pub content_equations : ℕ → Labels → Cell → ℕ → Content → List Equation
  content_equations first labels cell a (Means v) = Typ (term.Att a (record { generator = cell.generator; path = [] }))
      (value_term first labels v) ∷ []
  content_equations first labels cell a Blank = []
  content_equations first labels cell a Wrong = []

  -- the key of the record's generator is the generator of the record with the id
  abbrev pub key_equations : Cell → ℕ → ℕ → Option ℕ → List Equation
  key_equations cell k target None = []
  key_equations cell k target (Some row) =
      Ent (record { generator = cell.generator; path = k ∷ [] }) (record { generator = start_of target + row; path = [] }) ∷ []

  abbrev pub key_field_equations : Cell → ℕ → ℕ → List ℕ → List Equation
  key_field_equations cell k target [] = []
  key_field_equations cell k target (first ∷ rest) = key_equations cell k target (row_with_id target (first ∷ rest))

  abbrev pub column_equations : Typeside → ℕ → Labels → Cell → Column → List Equation
  column_equations T first labels cell (Attribute a type) = content_equations first labels cell a (content_of T type cell.field)
  column_equations T first labels cell (Key k target) = key_field_equations cell k target cell.field

  -- what a cell says, where the generators of the labels are those from `first` on; an empty cell says nothing
  abbrev pub cell_equations : Typeside → ℕ → Labels → Cell → List Equation
  cell_equations T first labels cell = column_equations T first labels cell cell.column

-- what some cells say, each with the labels that have appeared up to it
module _ (sheets : List Sheet) (T : Typeside) (first : ℕ) where
  abbrev pub equations_from : Labels → List Cell → List Equation
  equations_from labels [] = []
  equations_from labels (cell ∷ cells) =
      cell_equations sheets T first (with_uses labels (cell_uses T cell)) cell ++ equations_from (with_uses labels (cell_uses T cell)) cells

-- the cells of all files, by entity, record and column
module _ (S : Schema) (sheets : List Sheet) where
  abbrev pub entity_cells : ℕ → List Cell
  entity_cells entity = rows_cells (file_in (slice_get sheets entity)) (columns S entity) (start_of sheets entity) 1 (rows_at sheets entity)

  abbrev pub all_cells : List Cell
  all_cells = flat_map entity_cells (below (length S.entities))
