use Rattle.std.proofs.Common.{ℕ, List, [], ◌≡◌, ◌<◌, sym, ap, subst, ◌∙◌}
use Rattle.std.specs.Prelude.{slice_index, slice_index_or}
use Rattle.cq_theory.specs.declared.presentation.Sort.TheVariants.{Entity}
use Rattle.cq_theory.specs.Tables.{Meaning, AtRow, row_in, count_of}
use Rattle.cq_mapping.specs.Images.{entity_image}
use Rattle.cq_instance.specs.InstanceData.{InstanceData}
use Rattle.cq_adjoint.specs.Spellable.{moved}
use Rattle.cq_adjoint.proofs.MovedImages.{row_within, row_found, row_spelled}
use Rattle.cq_adjoint.proofs.spelled.spelled_row.Goals as goal

pub name_row-requires : goal.name_row-requires
name_row-requires c =
    let d : InstanceData = c.args.to.now in
    let image : ℕ = entity_image c.args.mapping.now c.args.entity in
    let m : Meaning = slice_index_or c.args.from.now.assignment c.args.generator (AtRow 0) in
    let rows : c.rows_at-rows.result.now ≡ slice_index_or c.args.h.now.rows image [] = c.rows_at-rows.ensures ∙ (λ k. slice_index_or (c.as_slice.ensures k) (c.image_of_entity.ensures k) []) in
    let found : c.sent_row-row.result ≡ slice_index (slice_index_or c.args.h.now.rows image []) (row_in m) = c.sent_row-row.ensures ∙ ap (λ (list : List ℕ). slice_index list (row_in m)) rows in
    subst (λ (r : ℕ). r < count_of d.tables c.args.entity) (sym found)
    (row_within d.schema d.schema c.args.from.now.tables d.tables d.tables c.args.h.now.rows c.args.h.now.nulls c.args.entity image m c.requires.spellable.sorted)

pub returns-in-Ok : goal.returns-in-Ok
returns-in-Ok c =
    let d : InstanceData = c.args.to.now in
    let image : ℕ = entity_image c.args.mapping.now c.args.entity in
    let m : Meaning = slice_index_or c.args.from.now.assignment c.args.generator (AtRow 0) in
    let rows : c.rows_at-rows.result.now ≡ slice_index_or c.args.h.now.rows image [] = c.rows_at-rows.ensures ∙ (λ k. slice_index_or (c.as_slice.ensures k) (c.image_of_entity.ensures k) []) in
    let found : c.sent_row-row.result ≡ slice_index (slice_index_or c.args.h.now.rows image []) (row_in m) = c.sent_row-row.ensures ∙ ap (λ (list : List ℕ). slice_index list (row_in m)) rows in
    let inside : c.sent_row-row.result < count_of d.tables c.args.entity =
    subst (λ (r : ℕ). r < count_of d.tables c.args.entity) (sym found)
    (row_within d.schema d.schema c.args.from.now.tables d.tables d.tables c.args.h.now.rows c.args.h.now.nulls c.args.entity image m c.requires.spellable.sorted) in
    c.in-Ok.ensures
    ∙ row_spelled d c.is_instance.ensures c.requires.given c.args.entity (moved c.args.mapping.now c.args.h.now c.args.from.now d c.args.generator (Entity c.args.entity)) c.sent_row-row.result inside
    (found ∙ row_found d.schema d.schema c.args.from.now.tables d.tables d.tables c.args.h.now.rows c.args.h.now.nulls c.args.entity image m c.requires.spellable.sorted)
