use Rattle.std.proofs.Common.{◌≡◌, ap, subst, ◌∙◌}
use Rattle.cq_theory.specs.SchemaData.{SchemaData}
use Rattle.cq_csv.specs.Files.{names_of}
use Rattle.cq_csv.specs.Records.{AddsFields}
use Rattle.cq_csv.proofs.Adds.{adds_then}
use Rattle.cq_csv.proofs.rows.push_header.Goals as goal

pub returns : goal.returns
returns c =
    let i = c.args.instance.now in
    let attributes : c.as_slice.result.now ≡ i.schema.attributes =
    c.as_slice.ensures ∙ ap (λ (s : SchemaData). s.attributes) (c.behind-schema.view_is ∙ c.deref.ensures ∙ c.schema-schema.ensures.schema) in
    let keys : c.as_slice-2.result.now ≡ i.schema.keys =
    c.as_slice-2.ensures ∙ ap (λ (s : SchemaData). s.keys) (c.behind-schema-2.view_is ∙ c.deref-2.ensures ∙ c.schema-schema.ensures.schema) in
    let first = subst (λ edges. AddsFields c.push_field.new.fields c.push_names.new.fields (names_of edges c.args.attributes.now)) attributes c.in_ok-push_names.ensures in
    let second = subst (λ edges. AddsFields c.push_names.new.fields c.push_names-2.new.fields (names_of edges c.args.keys.now)) keys c.in_ok-push_names-2.ensures in
    adds_then c.args.fields.now c.push_names.new.fields c.push_names-2.new.fields _ _
    (adds_then c.args.fields.now c.push_field.new.fields c.push_names.new.fields _ _ c.in_ok-push_field.ensures first) second
