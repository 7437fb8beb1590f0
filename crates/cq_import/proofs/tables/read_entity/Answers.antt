use Rattle.std.proofs.Common.{ℕ, List, ◌+◌, ◌<◌, ◌≤◌, ◌≡◌, ◌∙◌, length, get_or, map, sym, ap, subst, arith}
use Rattle.std.specs.Prelude.{All, string_bytes}
use Rattle.std.proofs.lemmas.List.FromFn.{length-map-range_with_len}
use Rattle.std.proofs.lemmas.Result.{on_ok_weaker, MatchResult-weaker}
use Rattle.cq_import.specs.declared.columns.Column.{Column}
use Rattle.cq_import.specs.declared.entity_file.EntityFile.{EntityFile}
use Rattle.cq_import.specs.Cells.{Cell, rows_cells, start_of}
use Rattle.cq_import.specs.Context.{IsColumn, Reads, faults_in, sheets_in}
use Rattle.cq_import.specs.Rows.{rows_of}
use Rattle.cq_import.proofs.Entities.{cells_are, columns_within}
use Rattle.cq_import.proofs.Faulty.{refuses_same}
use Rattle.cq_import.proofs.Starts.{rows_fit, start_here}
use Rattle.cq_import.proofs.tables.read_entity.Goals as goal

pub bounds-context-entity-3 : goal.bounds-context-entity-3
bounds-context-entity-3 c =
    let many = length-map-range_with_len (start_of (sheets_in c.args.context.now)) 0 (length c.args.context.now.schema.now.entities) in
    omega (arith, many, ap length c.requires.context.starts, c.requires.context.files, c.requires.entity)

pub read_table-requires-clause-columns : goal.read_table-requires-clause-columns
read_table-requires-clause-columns c =
    let S = c.args.context.now.schema.now in
    let inside : c.args.entity < length S.entities = omega (arith, c.requires.context.files, c.requires.entity) in
    let columned = c.as_slice-columns.ensures.value ∙ c.requires.context.columns.group c.args.entity c.index-context-entity-2.result inside in
    subst (All (IsColumn S)) (sym columned) (columns_within S c.args.entity c.is_well_sorted.ensures)

pub read_table-requires-clause-few : goal.read_table-requires-clause-few
read_table-requires-clause-few c =
    let context = c.args.context.now in
    let file = c.index-context-entity.result in
    let inside : c.args.entity < length context.schema.now.entities = omega (arith, c.requires.context.files, c.requires.entity) in
    let text = c.as_slice.ensures.value ∙ ap (λ (f : EntityFile). f.text.items) (sym c.index-context-entity.is) in
    let fits = rows_fit context.files.now c.args.entity file c.requires.entity c.index-context-entity.is in
    let started = start_here (sheets_in context) context.starts.now (length context.schema.now.entities) c.args.entity c.requires.context.starts inside in
    omega (arith, fits, started, ap (λ t. length (rows_of t)) text, c.requires.context.first, c.requires.context.few)

pub returns-clause-passed : goal.returns-clause-passed
returns-clause-passed c =
    let context = c.args.context.now in
    let S = context.schema.now in
    let file = c.index-context-entity.result in
    let inside : c.args.entity < length S.entities = omega (arith, c.requires.context.files, c.requires.entity) in
    let columned = c.as_slice-columns.ensures.value ∙ c.requires.context.columns.group c.args.entity c.index-context-entity-2.result inside in
    let text = c.as_slice.ensures.value ∙ ap (λ (f : EntityFile). f.text.items) (sym c.index-context-entity.is) in
    let name = c.as_str.ensures.value ∙ ap (λ (f : EntityFile). string_bytes f.name) (sym c.index-context-entity.is) in
    let started = start_here (sheets_in context) context.starts.now (length S.entities) c.args.entity c.requires.context.starts inside in
    let start = get_or context.starts.now c.args.entity 0 in
    let found = c.as_slice-columns.result.now in
    let whole = ap (λ n. rows_cells n found start 1 (rows_of c.as_slice.result.now)) name ∙ ap (λ t. rows_cells (string_bytes file.name) found start 1 (rows_of t)) text
    ∙ cells_are S context.files.now c.args.entity file found start c.requires.entity c.index-context-entity.is columned started in
    on_ok_weaker c.read_table.result (subst (Reads context c.args.made.now c.read_table.new.made) whole) c.read_table.ensures.passed

pub returns-clause-refused : goal.returns-clause-refused
returns-clause-refused c =
    let context = c.args.context.now in
    let S = context.schema.now in
    let file = c.index-context-entity.result in
    let inside : c.args.entity < length S.entities = omega (arith, c.requires.context.files, c.requires.entity) in
    let columned = c.as_slice-columns.ensures.value ∙ c.requires.context.columns.group c.args.entity c.index-context-entity-2.result inside in
    let text = c.as_slice.ensures.value ∙ ap (λ (f : EntityFile). f.text.items) (sym c.index-context-entity.is) in
    let name = c.as_str.ensures.value ∙ ap (λ (f : EntityFile). string_bytes f.name) (sym c.index-context-entity.is) in
    let started = start_here (sheets_in context) context.starts.now (length S.entities) c.args.entity c.requires.context.starts inside in
    let start = get_or context.starts.now c.args.entity 0 in
    let found = c.as_slice-columns.result.now in
    let whole = ap (λ n. rows_cells n found start 1 (rows_of c.as_slice.result.now)) name ∙ ap (λ t. rows_cells (string_bytes file.name) found start 1 (rows_of t)) text
    ∙ cells_are S context.files.now c.args.entity file found start c.requires.entity c.index-context-entity.is columned started in
    MatchResult-weaker c.read_table.result c.read_table.ensures.refused (λ done ok. ok) (λ r refuses. refuses_same r _ _ (ap (faults_in context c.args.made.now) whole) refuses)
