-- Records whose cells are tested one after the other.
use Rattle.std.proofs.Common.{ℕ, List, [], ◌++◌, ◌+◌, ◌-◌, ◌<◌, ◌≡◌, Result, Ok, Err, length, sym, ap, subst, ◌∙◌, arith}
use Rattle.std.specs.Borrow.{Bor}
use Rattle.csv.specs.declared.reader.Reader.{Reader}
use Rattle.cq_import.specs.declared.columns.Column.{Column}
use Rattle.std.specs.Prelude.{OnOk}
use Rattle.std.specs.declared.alloc.AllocError.{AllocError}
use Rattle.cq_theory.specs.SchemaData.{SchemaData as Schema}
use Rattle.cq_import.specs.Cells.{cell_in, entity_cells, row_cells, rows_cells, start_of}
use Rattle.cq_import.specs.Columns.{columns as columns_of}
use Rattle.cq_import.specs.Rows.{rows_of}
use Rattle.cq_import.specs.Records.{Record, Remains, Takes, field_in}
use Rattle.cq_cells.specs.declared.cells.Cell.{Cell as RustCell}
use Rattle.cq_cells.specs.declared.cells.Over.{Over}
use Rattle.cq_cells.specs.declared.cells.Pass.{Pass}
use Rattle.cq_cells.specs.Passes.{Passes, TellsNoMore, cell_shown, sheets_over, told_with}
use Rattle.cq_cells.specs.Readings.{reading_at, text_in}
use Rattle.cq_cells.proofs.Sheeting.{cells_here}
use Rattle.cq_cells.proofs.Passing.{Goes, goes_all, goes_done, goes_more, goes_start}

-- the records before this number are tested, and the reader has the others left
pub record AreTabled (over : Over) (file : ℕ) (columns : List Column) (generator number : ℕ) (old now : Pass) (reader : Reader (Bor (List ℕ))) (rows : List Record) : Type 0 where
  pub others : List Record
  pub remains : Remains reader others
  pub next : ℕ
  pub goes : Goes over old now (λ name. rows_cells (name file) columns generator 1 rows) (λ name. rows_cells (name file) columns next number others)

pub tabled_start : (over : Over) (file : ℕ) (columns : List Column) (generator : ℕ) (old : Pass) (reader : Reader (Bor (List ℕ))) (rows : List Record) → Remains reader rows
    → AreTabled over file columns generator 1 old old reader rows
tabled_start over file columns generator old reader rows remains =
    record { others = rows; remains = remains; next = generator; goes = goes_start over old (λ name. rows_cells (name file) columns generator 1 rows) }

module _ (over : Over) (file : ℕ) (columns : List Column) (generator number : ℕ) (old now : Pass) (reader : Reader (Bor (List ℕ))) (rows : List Record)
    (tabled : AreTabled over file columns generator number old now reader rows) where
  pub tabled_all : tabled.others ≡ [] → Passes over old now (λ name. rows_cells (name file) columns generator 1 rows)
  tabled_all none =
      goes_all over old now (λ name. rows_cells (name file) columns generator 1 rows) (λ name. rows_cells (name file) columns tabled.next number tabled.others) tabled.goes
      (λ name. ap (rows_cells (name file) columns tabled.next number) none)

  pub tabled_done : TellsNoMore over now → Passes over old now (λ name. rows_cells (name file) columns generator 1 rows)
  tabled_done done =
      goes_done over old now (λ name. rows_cells (name file) columns generator 1 rows) (λ name. rows_cells (name file) columns tabled.next number tabled.others) tabled.goes done

  pub tabled_more : (reads : Reader (Bor (List ℕ))) (fields : Record) (takes : Takes reads tabled.others fields) (new : Pass)
      → ((g : ℕ) → Passes over now new (λ name. row_cells (name file) columns g number fields)) → AreTabled over file columns generator (number + 1) old new reads rows
  tabled_more reads fields takes new passes = record {
    others = takes.others;
    remains = takes.remains;
    next = tabled.next + 1;
    goes =
        goes_more over old now new (λ name. rows_cells (name file) columns generator 1 rows) (λ name. rows_cells (name file) columns tabled.next number tabled.others)
        (λ name. row_cells (name file) columns tabled.next number fields) (λ name. rows_cells (name file) columns (tabled.next + 1) (number + 1) takes.others) tabled.goes
        (λ name. ap (rows_cells (name file) columns tabled.next number) takes.first) (passes tabled.next);
  }

-- a cell of the program in its column
pub shown_in : (cell : RustCell) (generator place : ℕ) (fields : Record) (column : Column) → cell.place ≡ place + 2 → cell.column ≡ column → cell.field.now ≡ field_in fields (place + 1)
    → (name : ℕ → List ℕ) → cell_shown generator cell name ≡ cell_in (name cell.file) generator cell.number fields (place + 2, column)
shown_in cell generator place fields column placed is holds name =
    let less : place + 1 ≡ place + 2 - 1 = omega arith in
    let field : cell.field.now ≡ field_in fields (place + 2 - 1) = holds ∙ ap (field_in fields) less in
    λ i. record { file = name cell.file; row_number = cell.number; column_number = placed i; generator = generator; column = is i; field = field i }

-- the cells of an entity's file, whose generators are left to the sheets
pub passes_entity : (result : Result (Unit {0}) AllocError) (over : Over) (old new : Pass) (S : Schema) (entity : ℕ) (found : List Column) (text : List ℕ) → entity < length S.entities → S ≡ over.schema.now
    → found ≡ columns_of S entity → text ≡ text_in (reading_at over.readings.now entity)
    → ((g : ℕ) → OnOk result (Passes over old new (λ name. rows_cells (name entity) found g 1 (rows_of text))))
    → OnOk result (Passes over old new (λ name. entity_cells S (sheets_over over name) entity))
passes_entity (Ok u) over old new S entity found text within same columned is passes = λ name others.
    let here = subst (λ T. rows_cells (name entity) found (start_of (sheets_over over name) entity) 1 (rows_of text) ≡ entity_cells T (sheets_over over name) entity) (sym same)
    (cells_here name over.schema.now over.readings.now entity (subst (λ T. entity < length T.entities) same within) found text (subst (λ T. found ≡ columns_of T entity) same columned) is) in
    passes (start_of (sheets_over over name) entity) name others ∙ ap (λ l. told_with over name old (l ++ others)) here
passes_entity (Err e) over old new S entity found text within same columned is passes = tt
