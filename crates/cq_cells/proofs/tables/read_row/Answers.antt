use Rattle.std.proofs.Common.{ℕ, List, [], ◌∷◌, ◌+◌, refl, ap, get_or}
use Rattle.csv.specs.Records.{fields_of}
use Rattle.cq_import.specs.declared.columns.Column.TheVariants.{Attribute}
use Rattle.cq_import.specs.Cells.{Cell, cell_in}
use Rattle.cq_import.proofs.CellLists.{row_rest, row_rest-end, row_rest-more, same_default}
use Rattle.cq_cells.specs.declared.cells.Cell.{Cell as RustCell}
use Rattle.cq_cells.specs.Passes.{cell_shown}
use Rattle.cq_cells.proofs.Passing.{goes_all, goes_more, passes_same}
use Rattle.cq_cells.proofs.Tabling.{shown_in}
use Rattle.cq_cells.proofs.tables.read_row.Goals as goal

pub loop-place-init : goal.loop-place-init
loop-place-init c = λ generator name others. refl

pub read_cell-requires : goal.read_cell-requires
read_cell-requires c = record { over = c.requires.over; column = c.requires.columns c.loop-place.place _ c.loop-place-test.true }

pub loop-place-preserved : goal.loop-place-preserved
loop-place-preserved c = λ generator.
    let over = c.args.over.now in
    let table = c.args.table.now in
    let number = c.args.number in
    let place = c.loop-place.place in
    let fields = fields_of c.args.fields.now in
    let column = get_or table.columns.now place (Attribute 0 0) in
    let cell : RustCell = record { file = table.file; number = number; place = place + 2; column = column; field = c.field.result } in
    let is = λ (name : ℕ → List ℕ). row_rest-more (name table.file) table.columns.now generator number fields place column c.loop-place-test.true
    (same_default table.columns.now place (Attribute 0 0) c.loop-place-test.true) in
    let passes = passes_same over c.loop-place.pass c.read_cell.new.pass (λ name. cell_shown generator cell name ∷ []) (λ name. cell_in (name table.file) generator number fields (place + 2, column) ∷ [])
    (λ name. ap (λ (x : Cell). x ∷ []) (shown_in cell generator place fields column refl refl c.field.ensures name)) (c.in_ok-read_cell.ensures generator) in
    goes_more over c.args.pass.now c.loop-place.pass c.read_cell.new.pass
    (λ name. row_rest (name table.file) table.columns.now generator number fields 0)
    (λ name. row_rest (name table.file) table.columns.now generator number fields place)
    (λ name. cell_in (name table.file) generator number fields (place + 2, column) ∷ [])
    (λ name. row_rest (name table.file) table.columns.now generator number fields (place + 1)) (c.loop-place.invariant generator) is passes

pub returns : goal.returns
returns c = λ generator.
    let table = c.args.table.now in
    let fields = fields_of c.args.fields.now in
    goes_all c.args.over.now c.args.pass.now c.loop-place.pass
    (λ name. row_rest (name table.file) table.columns.now generator c.args.number fields 0)
    (λ name. row_rest (name table.file) table.columns.now generator c.args.number fields c.loop-place.place) (c.loop-place.invariant generator)
    (λ name. row_rest-end (name table.file) table.columns.now generator c.args.number fields c.loop-place.place c.loop-place-test.false)
