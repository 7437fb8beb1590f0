use Rattle.std.proofs.Common.{[], ◌∷◌, ◌≡◌, ap, subst, ◌∙◌}
use Rattle.cq_theory.specs.SchemaData.{SchemaData}
use Rattle.cq_text.proofs.Typed.{cell_is_named}
use Rattle.cq_csv.specs.Files.{cell_field}
use Rattle.cq_csv.specs.Records.{AddsFields}
use Rattle.cq_csv.proofs.rows.push_cell.Goals as goal

pub push_cell_field-requires-clause-named : goal.push_cell_field-requires-clause-named
push_cell_field-requires-clause-named c =
    let i = c.args.instance.now in
    let typeside : c.deref-2.result.now ≡ i.schema.typeside =
    c.deref-2.ensures ∙ ap (λ (s : SchemaData). s.typeside) (c.behind-schema.view_is ∙ c.deref.ensures ∙ c.schema-schema.ensures.schema) in
    rw (typeside, c.cell-value.ensures)
    (cell_is_named i.schema i.tables c.schema-schema.ensures.instance.well_formed c.args.attribute c.args.row c.requires.row.0 c.requires.row.1)

pub returns : goal.returns
returns c =
    let i = c.args.instance.now in
    let typeside : c.deref-2.result.now ≡ i.schema.typeside =
    c.deref-2.ensures ∙ ap (λ (s : SchemaData). s.typeside) (c.behind-schema.view_is ∙ c.deref.ensures ∙ c.schema-schema.ensures.schema) in
    subst (λ f. AddsFields c.args.fields.now c.push_cell_field.new.fields (f ∷ [])) (λ j. cell_field (typeside j) (c.cell-value.ensures j)) c.in_ok-push_cell_field.ensures
