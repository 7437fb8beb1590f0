use Rattle.std.proofs.Common.{◌≡◌, ap, ◌∙◌}
use Rattle.cq_theory.specs.SchemaData.{SchemaData}
use Rattle.cq_text.proofs.Typed.{cell_is_named}
use Rattle.cq_text.proofs.rows.push_attribute.Goals as goal

pub push_cell-requires-clause-value : goal.push_cell-requires-clause-value
push_cell-requires-clause-value c =
    let i = c.args.instance.now in
    let typeside : c.deref-3.result.now ≡ i.schema.typeside =
    c.deref-3.ensures ∙ ap (λ (s : SchemaData). s.typeside) (c.behind-schema-2.view_is ∙ c.deref-2.ensures ∙ c.schema-schema.ensures.schema) in
    rw (typeside, c.cell-value.ensures)
    (cell_is_named i.schema i.tables c.schema-schema.ensures.instance.well_formed c.args.attribute c.args.row c.requires.attribute c.requires.row)
