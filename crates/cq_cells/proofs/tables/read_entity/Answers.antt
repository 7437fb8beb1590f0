use Rattle.std.proofs.Common.{◌<◌, ◌∙◌, refl, sym, ap, subst, length, arith}
use Rattle.std.specs.Prelude.{All}
use Rattle.cq_import.specs.Context.{IsColumn}
use Rattle.cq_import.proofs.Entities.{columns_within}
use Rattle.cq_cells.specs.Readings.{text_in}
use Rattle.cq_cells.proofs.Sheeting.{reading_is}
use Rattle.cq_cells.proofs.Tabling.{passes_entity}
use Rattle.cq_cells.proofs.tables.read_entity.Goals as goal

pub read_text-requires-clause-columns : goal.read_text-requires-clause-columns
read_text-requires-clause-columns c =
    let S = c.args.over.now.schema.now in
    let columned = c.as_slice-columns.ensures.value ∙ c.requires.over.columns.group c.args.entity c.index-over-entity-2.result c.requires.entity in
    subst (All (IsColumn S)) (sym columned) (columns_within S c.args.entity c.is_well_sorted.ensures)

pub returns : goal.returns
returns c =
    let over = c.args.over.now in
    let reading = c.index-over-entity.result in
    let columned = c.as_slice-columns.ensures.value ∙ c.requires.over.columns.group c.args.entity c.index-over-entity-2.result c.requires.entity in
    let within : c.args.entity < length over.readings.now = omega (arith, c.requires.over.readings, c.requires.entity) in
    let text = c.bytes_of.ensures ∙ ap text_in (sym c.index-over-entity.is ∙ sym (reading_is over.readings.now c.args.entity reading within c.index-over-entity.is)) in
    passes_entity c.read_text.result over c.args.pass.now c.read_text.new.pass over.schema.now c.args.entity _ _ c.requires.entity refl columned text c.read_text.ensures
