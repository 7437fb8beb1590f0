use Rattle.std.proofs.Common.{◌≡◌, ◌∙◌, ap, length}
use Rattle.std.proofs.lemmas.Result.{IfOk-weaker}
use Rattle.cq_theory.specs.SchemaData.{SchemaData as Schema}
use Rattle.cq_names.specs.LeastNames.{AreNumbered}
use Rattle.cq_names.specs.NamedRows.{AreNamedRows}
use Rattle.cq_names.specs.RowNumbers.{AreNumberedAs}
use Rattle.cq_names.proofs.NumberedNames.{walk_lengths, walk_once}
use Rattle.cq_names.proofs.NamedRows.{walk_made, named_rows, numbered_rows}
use Rattle.cq_names.proofs.naming.name_rows.Goals as goal

pub number_rows-requires-clause-rows : goal.number_rows-requires-clause-rows
number_rows-requires-clause-rows c = walk_made c.args.schema.now c.args.presentation.now c.args.tables.now c.args.entries.now c.requires.closed c.in_ok-rows.rows.items c.in_ok-rows.names.items c.in_ok-rows.ensures

pub number_rows-requires-clause-names : goal.number_rows-requires-clause-names
number_rows-requires-clause-names c = walk_lengths c.args.schema.now c.args.presentation.now c.args.tables.now c.args.entries.now c.requires.closed c.in_ok-rows.rows.items c.in_ok-rows.names.items c.in_ok-rows.ensures

pub number_rows-requires-clause-once : goal.number_rows-requires-clause-once
number_rows-requires-clause-once c = walk_once c.args.schema.now c.args.presentation.now c.args.tables.now c.args.entries.now c.requires.closed c.in_ok-rows.rows.items c.in_ok-rows.names.items c.in_ok-rows.ensures

pub returns-clause-least : goal.returns-clause-least
returns-clause-least c =
    let S : Schema = c.args.schema.now in
    let entities : c.len.result ≡ length S.entities = c.len.ensures ∙ ap (λ (s : Schema). length s.entities) c.schema.view_is in
    IfOk-weaker c.number_rows.result (AreNumberedAs c.args.tables.now c.len.result c.in_ok-rows.rows.items c.in_ok-rows.names.items)
    (λ numbered. AreNumbered S c.args.presentation.now c.args.tables.now c.args.entries.now numbered.order numbered.names numbered.numbers)
    (λ numbered are. numbered_rows S c.args.presentation.now c.args.tables.now c.args.entries.now c.requires.closed numbered
    (named_rows S c.args.presentation.now c.args.tables.now c.args.entries.now c.requires.closed c.in_ok-rows.rows.items c.in_ok-rows.names.items c.in_ok-rows.ensures c.len.result numbered entities are))
    c.number_rows.ensures

pub returns-clause-rows : goal.returns-clause-rows
returns-clause-rows c =
    let S : Schema = c.args.schema.now in
    let entities : c.len.result ≡ length S.entities = c.len.ensures ∙ ap (λ (s : Schema). length s.entities) c.schema.view_is in
    IfOk-weaker c.number_rows.result (AreNumberedAs c.args.tables.now c.len.result c.in_ok-rows.rows.items c.in_ok-rows.names.items)
    (AreNamedRows S c.args.presentation.now c.args.tables.now c.args.entries.now)
    (λ numbered are. named_rows S c.args.presentation.now c.args.tables.now c.args.entries.now c.requires.closed c.in_ok-rows.rows.items c.in_ok-rows.names.items c.in_ok-rows.ensures c.len.result numbered entities are)
    c.number_rows.ensures
