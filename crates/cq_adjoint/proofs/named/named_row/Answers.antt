use Rattle.std.proofs.Common.{ℕ, List, [], ◌≡◌, ◌<◌, sym, ap, subst, ◌∙◌}
use Rattle.std.specs.Prelude.{slice_index, slice_index_or}
use Rattle.cq_theory.specs.Tables.{Meaning, AtRow, row_in, count_of}
use Rattle.cq_mapping.specs.Images.{entity_image}
use Rattle.cq_instance.specs.InstanceData.{InstanceData, name_at}
use Rattle.cq_instance.specs.declared.transform.Image.TheVariants.{Row}
use Rattle.cq_adjoint.proofs.MovedImages.{row_within, row_found}
use Rattle.cq_adjoint.proofs.named.named_row.Goals as goal

pub name_row-requires : goal.name_row-requires
name_row-requires c =
    let d : InstanceData = c.args.to.now in
    let image : ℕ = entity_image c.args.mapping.now c.args.entity in
    let m : Meaning = slice_index_or c.args.from.now.assignment c.args.generator (AtRow 0) in
    let rows : c.rows_at-rows.result.now ≡ slice_index_or c.args.k.now.rows c.args.entity [] = c.rows_at-rows.ensures ∙ ap (λ (lists : List (List ℕ)). slice_index_or lists c.args.entity []) c.as_slice.ensures in
    let found : c.sent_row-row.result ≡ slice_index (slice_index_or c.args.k.now.rows c.args.entity []) (row_in m) = c.sent_row-row.ensures ∙ ap (λ (list : List ℕ). slice_index list (row_in m)) rows in
    subst (λ (x : ℕ × ℕ). x.0 < count_of d.tables x.1) (λ k. (sym found k, sym c.image_of_entity.ensures k))
    (row_within d.schema d.schema c.args.from.now.tables d.tables d.tables c.args.k.now.rows c.args.k.now.nulls image c.args.entity m c.requires.sorted)

pub returns-in-Ok : goal.returns-in-Ok
returns-in-Ok c =
    let d : InstanceData = c.args.to.now in
    let image : ℕ = entity_image c.args.mapping.now c.args.entity in
    let m : Meaning = slice_index_or c.args.from.now.assignment c.args.generator (AtRow 0) in
    let rows : c.rows_at-rows.result.now ≡ slice_index_or c.args.k.now.rows c.args.entity [] = c.rows_at-rows.ensures ∙ ap (λ (lists : List (List ℕ)). slice_index_or lists c.args.entity []) c.as_slice.ensures in
    let found : c.sent_row-row.result ≡ slice_index (slice_index_or c.args.k.now.rows c.args.entity []) (row_in m) = c.sent_row-row.ensures ∙ ap (λ (list : List ℕ). slice_index list (row_in m)) rows in
    λ nulls.
    c.in-Ok.ensures
    ∙ (λ k. Row (name_at d.names (c.image_of_entity.ensures k)
    ((found ∙ row_found d.schema d.schema c.args.from.now.tables d.tables d.tables c.args.k.now.rows c.args.k.now.nulls image c.args.entity m c.requires.sorted) k)))
