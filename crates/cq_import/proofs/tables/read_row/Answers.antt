use Rattle.std.proofs.Common.{ℕ, None, [], ◌∷◌, ◌++◌, ◌+◌, ◌≡◌, ◌∙◌, get_or, refl, sym, ap, subst}
use Rattle.csv.specs.Records.{fields_of}
use Rattle.cq_import.specs.declared.cells.Cell.{Cell as RustCell}
use Rattle.cq_import.specs.declared.columns.Column.TheVariants.{Attribute}
use Rattle.cq_import.specs.Cells.{Cell, cell_in}
use Rattle.cq_import.specs.Context.{ReadsCell, fault_in, shown_cell}
use Rattle.cq_import.proofs.CellLists.{reading_start, reading_refused, reading_more, reading_all, reads_one, row_rest, row_rest-more, row_rest-end, same_cell, same_default}
use Rattle.cq_import.proofs.Faulty.{refuses_first, refuses_same}
use Rattle.cq_import.proofs.tables.read_row.Goals as goal

pub loop-place-init : goal.loop-place-init
loop-place-init c = (reading_start _ _ _, c.requires.room)

pub read_cell-requires : goal.read_cell-requires
read_cell-requires c = record { context = c.requires.context; column = c.requires.columns c.loop-place.place _ c.loop-place-test.true; room = c.loop-place.invariant.1 }

pub returns-in-Err-clause-refused : goal.returns-in-Err-clause-refused
returns-in-Err-clause-refused c =
    let row = c.args.row.now in
    let place = c.loop-place.place in
    let fields = fields_of row.fields.now in
    let column = get_or c.args.columns.now place (Attribute 0 0) in
    let cell : RustCell = record { file = row.file; row_number = row.number; column_number = place + 2; generator = row.generator; column = column; field = c.field-field.result; rest = c.loop-place.rest } in
    let here : Cell = cell_in row.file.now row.generator row.number fields (place + 2, column) in
    let same = same_cell row.file.now c.args.columns.now row.generator row.number fields place cell column refl refl refl refl refl c.field-field.ensures in
    let more = row_rest-more row.file.now c.args.columns.now row.generator row.number fields place column c.loop-place-test.true (same_default c.args.columns.now place (Attribute 0 0) c.loop-place-test.true) in
    let refuses = refuses_same c.in-Err.refusal (fault_in c.args.context.now c.loop-place.made (shown_cell cell)) (fault_in c.args.context.now c.loop-place.made here)
    (ap (fault_in c.args.context.now c.loop-place.made) same) c.in-Err.ensures.refused in
    reading_refused c.args.context.now c.args.made.now c.loop-place.made _ _ c.loop-place.invariant.0 (here ∷ []) (row_rest row.file.now c.args.columns.now row.generator row.number fields (place + 1)) c.in-Err.refusal more
    (refuses_first c.in-Err.refusal (fault_in c.args.context.now c.loop-place.made here) None refuses)

pub loop-place-preserved : goal.loop-place-preserved
loop-place-preserved c =
    let row = c.args.row.now in
    let place = c.loop-place.place in
    let fields = fields_of row.fields.now in
    let column = get_or c.args.columns.now place (Attribute 0 0) in
    let cell : RustCell = record { file = row.file; row_number = row.number; column_number = place + 2; generator = row.generator; column = column; field = c.field-field.result; rest = c.loop-place.rest } in
    let here : Cell = cell_in row.file.now row.generator row.number fields (place + 2, column) in
    let same = same_cell row.file.now c.args.columns.now row.generator row.number fields place cell column refl refl refl refl refl c.field-field.ensures in
    let more = row_rest-more row.file.now c.args.columns.now row.generator row.number fields place column c.loop-place-test.true (same_default c.args.columns.now place (Attribute 0 0) c.loop-place-test.true) in
    let one = reads_one c.args.context.now c.loop-place.made c.read_cell.new.made here (subst (ReadsCell c.args.context.now c.loop-place.made c.read_cell.new.made) same c.in_default.ensures.passed) in (
      reading_more c.args.context.now c.args.made.now c.loop-place.made _ _ c.loop-place.invariant.0 c.read_cell.new.made (here ∷ []) (row_rest row.file.now c.args.columns.now row.generator row.number fields (place + 1)) more one,
      c.in_default.ensures.room,
    )

pub returns-clause-passed : goal.returns-clause-passed
returns-clause-passed c =
    let row = c.args.row.now in
    reading_all c.args.context.now c.args.made.now c.loop-place.made _ _ c.loop-place.invariant.0 (row_rest-end row.file.now c.args.columns.now row.generator row.number (fields_of row.fields.now) c.loop-place.place c.loop-place-test.false)
