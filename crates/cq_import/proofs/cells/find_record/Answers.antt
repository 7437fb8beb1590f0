use Rattle.std.proofs.Common.{ℕ, ◌≡◌, ◌+◌, ◌<◌, ◌∙◌, Some, map, length, sym, ap, subst, arith}
use Rattle.std.proofs.lemmas.List.FromFn.{length-map-range_with_len}
use Rattle.std.specs.Option.{option_map}
use Rattle.cq_base.specs.Names.{number_of}
use Rattle.cq_import.specs.declared.entity_file.EntityFile.{EntityFile}
use Rattle.cq_import.specs.Cells.{start_of}
use Rattle.cq_import.specs.Context.{sheet_in, sheets_in}
use Rattle.cq_import.specs.Rows.{ids_of, rows_of}
use Rattle.cq_import.proofs.Starts.{id_here, row_fits, start_here}
use Rattle.cq_import.proofs.cells.find_record.Goals as goal

pub bounds-context-target-in-Some : goal.bounds-context-target-in-Some
bounds-context-target-in-Some c =
    let many = length-map-range_with_len (start_of (sheets_in c.args.context.now)) 0 (length c.args.context.now.schema.now.entities) in
    omega (arith, many, ap length c.requires.context.starts, c.requires.target)

pub overflow_add-result : goal.overflow_add-result
overflow_add-result c =
    let file = c.index-context-target.result in
    let found : number_of (ids_of (rows_of file.text.items)) c.args.id.now ≡ Some c.in-Some.row =
    ap (λ ids. number_of ids c.args.id.now) (sym file.ids_are) ∙ ap (number_of file.ids) (sym c.in_ok-id.ensures) ∙ ap (λ (f : EntityFile). number_of f.ids c.in_ok-id.id) c.index-context-target.is ∙ sym c.in-Some.ensures in
    let fits = row_fits c.args.context.now.files.now c.args.target file (omega (arith, c.requires.context.files, c.requires.target)) c.index-context-target.is c.args.id.now c.in-Some.row found in
    let start = start_here (sheets_in c.args.context.now) c.args.context.now.starts.now (length c.args.context.now.schema.now.entities) c.args.target c.requires.context.starts c.requires.target in
    omega (arith, fits, start, c.requires.context.first, c.requires.context.few)

pub returns-in-Some : goal.returns-in-Some
returns-in-Some c =
    let file = c.index-context-target.result in
    let found = id_here c.args.context.now.files.now c.args.target file (omega (arith, c.requires.context.files, c.requires.target)) c.index-context-target.is c.args.id.now
    ∙ ap (λ ids. number_of ids c.args.id.now) (sym file.ids_are) ∙ ap (number_of file.ids) (sym c.in_ok-id.ensures) ∙ ap (λ (f : EntityFile). number_of f.ids c.in_ok-id.id) c.index-context-target.is ∙ sym c.in-Some.ensures in
    let start = start_here (sheets_in c.args.context.now) c.args.context.now.starts.now (length c.args.context.now.schema.now.entities) c.args.target c.requires.context.starts c.requires.target in
    ap (λ n. Some (n + c.in-Some.row)) start ∙ sym (ap (option_map (λ row. start_of (sheets_in c.args.context.now) c.args.target + row)) found)

pub returns : goal.returns
returns c =
    let file = c.index-context-target.result in
    let found = id_here c.args.context.now.files.now c.args.target file (omega (arith, c.requires.context.files, c.requires.target)) c.index-context-target.is c.args.id.now
    ∙ ap (λ ids. number_of ids c.args.id.now) (sym file.ids_are) ∙ ap (number_of file.ids) (sym c.in_ok-id.ensures) ∙ ap (λ (f : EntityFile). number_of f.ids c.in_ok-id.id) c.index-context-target.is ∙ sym c.in-None.ensures in
    sym (ap (option_map (λ row. start_of (sheets_in c.args.context.now) c.args.target + row)) found)
