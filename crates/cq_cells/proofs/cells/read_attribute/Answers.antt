use Rattle.std.proofs.Common.{refl, sym, ap, ◌∙◌}
use Rattle.std.proofs.lemmas.Result.{on_ok_weaker}
use Rattle.cq_theory.specs.SchemaData.{SchemaData}
use Rattle.cq_import.specs.Cells.{content_of}
use Rattle.cq_cells.proofs.Celling.{attribute_blank, attribute_wrong}
use Rattle.cq_cells.proofs.cells.read_attribute.Goals as goal

pub returns-in-Blank : goal.returns-in-Blank
returns-in-Blank c = λ generator.
    let same = c.deref-typeside.ensures ∙ ap (λ (s : SchemaData). s.typeside) c.schema.view_is in
    let old = c.args.pass.now in
    let is = ap (λ t. content_of t c.args.sort c.args.cell.now.field.now) (sym same) ∙ sym c.in_ok-content_in.ensures ∙ c.in-Blank.is in
    attribute_blank c.args.over.now old old c.args.cell.now generator c.requires.going c.requires.column.0 c.args.sort c.requires.column.1 is c.requires.going refl refl

pub returns-in-Wrong : goal.returns-in-Wrong
returns-in-Wrong c = λ generator.
    let same = c.deref-typeside.ensures ∙ ap (λ (s : SchemaData). s.typeside) c.schema.view_is in
    let is = ap (λ t. content_of t c.args.sort c.args.cell.now.field.now) (sym same) ∙ sym c.in_ok-content_in.ensures ∙ c.in-Wrong.is in
    on_ok_weaker c.add_fault.result
    (attribute_wrong c.args.over.now c.args.pass.now c.add_fault.new.pass c.args.cell.now generator c.requires.going c.requires.column.0 c.args.sort c.requires.column.1 is
    (c.add_fault.ensures.going ∙ c.requires.going) c.add_fault.ensures.labels)
    c.add_fault.ensures.listed

pub returns-in-Means : goal.returns-in-Means
returns-in-Means c = λ generator. c.read_value.ensures generator
