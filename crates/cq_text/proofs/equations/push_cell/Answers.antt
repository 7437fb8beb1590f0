use Rattle.std.proofs.Common.{◌≡◌, ap, ◌∙◌}
use Rattle.cq_theory.specs.SchemaData.{SchemaData}
use Rattle.cq_text.proofs.Typed.{cell_is_named}
use Rattle.cq_text.proofs.equations.push_cell.Goals as goal

pub push_spelled-requires : goal.push_spelled-requires
push_spelled-requires c =
    let i = c.args.instance.now in
    let typeside : c.deref-3.result.now ≡ i.schema.typeside =
    c.deref-3.ensures ∙ ap (λ (s : SchemaData). s.typeside) (c.behind-schema-2.view_is ∙ c.deref-2.ensures ∙ c.schema-schema.ensures.schema) in
    rw (typeside, c.cell-value.ensures)
    (cell_is_named i.schema i.tables c.schema-schema.ensures.instance.well_formed c.args.attribute c.args.row c.requires.row.0 c.requires.row.1)
