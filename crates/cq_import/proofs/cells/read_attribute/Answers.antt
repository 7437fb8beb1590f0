use Rattle.std.proofs.Common.{◌∙◌, refl, sym, ap}
use Rattle.cq_theory.specs.SchemaData.{SchemaData}
use Rattle.cq_theory.specs.TypesideData.{TypesideData}
use Rattle.cq_import.specs.Cells.{content_of}
use Rattle.cq_import.proofs.AttributeCells.{blank_read, wrong_refused}
use Rattle.cq_import.proofs.cells.read_attribute.Goals as goal

pub read_value-requires-clause-content : goal.read_value-requires-clause-content
read_value-requires-clause-content c =
    let same = c.deref-typeside.ensures ∙ ap (λ (s : SchemaData). s.typeside) c.schema.view_is in
    ap (λ (T : TypesideData). content_of T c.args.sort c.args.cell.now.field.now) (sym same) ∙ sym c.in_ok-read_content.ensures ∙ c.in-Means.is

pub returns-in-Blank-clause-passed : goal.returns-in-Blank-clause-passed
returns-in-Blank-clause-passed c =
    let same = c.deref-typeside.ensures ∙ ap (λ (s : SchemaData). s.typeside) c.schema.view_is in
    let content = ap (λ (T : TypesideData). content_of T c.args.sort c.args.cell.now.field.now) (sym same) ∙ sym c.in_ok-read_content.ensures ∙ c.in-Blank.is in
    blank_read c.args.context.now c.args.cell.now c.args.attribute c.args.sort c.requires.column c.args.made.now _ content refl refl

pub returns-in-Wrong-clause-refused : goal.returns-in-Wrong-clause-refused
returns-in-Wrong-clause-refused c =
    let same = c.deref-typeside.ensures ∙ ap (λ (s : SchemaData). s.typeside) c.schema.view_is in
    let content = ap (λ (T : TypesideData). content_of T c.args.sort c.args.cell.now.field.now) (sym same) ∙ sym c.in_ok-read_content.ensures ∙ c.in-Wrong.is in
    wrong_refused c.args.context.now c.args.cell.now c.args.attribute c.args.sort c.requires.column c.args.made.now _ content c.wrong.ensures
