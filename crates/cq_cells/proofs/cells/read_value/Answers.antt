use Rattle.std.proofs.Common.{refl, sym, ap, ◌∙◌, Some}
use Rattle.cq_theory.specs.SchemaData.{SchemaData}
use Rattle.cq_import.specs.Labels.{uses_in, uses_trouble, with_uses}
use Rattle.cq_cells.specs.declared.cells.Pass.{Pass}
use Rattle.cq_cells.proofs.Celling.{attribute_right, attribute_stopped}
use Rattle.cq_cells.proofs.cells.read_value.Goals as goal

pub returns-in-None : goal.returns-in-None
returns-in-None c = λ generator.
    let same = c.deref-typeside.ensures ∙ ap (λ (s : SchemaData). s.typeside) c.schema.view_is in
    let old = c.args.pass.now in
    let new : Pass = record { faults = old.faults; labels = c.note_labels.new.labels; going = old.going } in
    let right = ap (λ t. uses_trouble (Some c.args.over.now.most) old.labels (uses_in t c.args.value.now c.args.sort)) (sym same) ∙ sym c.in_ok-note_labels.ensures.told ∙ c.in-None.is in
    let noted = c.in_ok-note_labels.ensures.noted c.in-None.is ∙ ap (λ t. with_uses old.labels (uses_in t c.args.value.now c.args.sort)) same in
    attribute_right c.args.over.now old new c.args.cell.now generator c.requires.going c.requires.column.0 c.args.sort c.requires.column.1 c.args.value.now c.requires.content right c.requires.going noted refl

pub returns-in-Some : goal.returns-in-Some
returns-in-Some c = λ generator.
    let same = c.deref-typeside.ensures ∙ ap (λ (s : SchemaData). s.typeside) c.schema.view_is in
    let old = c.args.pass.now in
    let wrong = ap (λ t. uses_trouble (Some c.args.over.now.most) old.labels (uses_in t c.args.value.now c.args.sort)) (sym same) ∙ sym c.in_ok-note_labels.ensures.told ∙ c.in-Some.is in
    attribute_stopped c.args.over.now old c.stop.new.pass c.args.cell.now generator c.requires.going c.requires.column.0 c.args.sort c.requires.column.1 c.args.value.now c.requires.content
    c.stop.result c.in-Some.trouble wrong c.stop.ensures.stops (c.stop.ensures.listed generator)
