use Rattle.std.proofs.Common.{◌∙◌, subst, sym, ap}
use Rattle.cq_theory.specs.SchemaData.{SchemaData}
use Rattle.cq_import.proofs.AttributeCells.{value_read, value_refused}
use Rattle.cq_import.proofs.Rooms.{Fits, uses_fit}
use Rattle.cq_import.proofs.cells.read_value.Goals as goal

pub push_value-requires : goal.push_value-requires
push_value-requires c =
    let context = c.args.context.now in
    subst (Fits context.first) (sym c.in_default.ensures.labels)
    (uses_fit context.first context.room c.args.made.now.labels _ c.requires.context.room c.in_default.ensures.passed c.requires.room)

pub returns-in-Err-clause-refused : goal.returns-in-Err-clause-refused
returns-in-Err-clause-refused c =
    let same = c.deref-typeside.ensures ∙ ap (λ (s : SchemaData). s.typeside) c.schema.view_is in
    value_refused c.args.context.now c.args.cell.now c.args.attribute c.args.sort c.requires.column _ c.args.value.now same c.requires.content c.args.made.now _ c.in-Err.ensures.refused

pub returns-clause-passed : goal.returns-clause-passed
returns-clause-passed c =
    let same = c.deref-typeside.ensures ∙ ap (λ (s : SchemaData). s.typeside) c.schema.view_is in
    value_read c.args.context.now c.args.cell.now c.args.attribute c.args.sort c.requires.column _ c.args.value.now same c.requires.content c.args.made.now _ _ c.in_default.ensures.passed c.in_default.ensures.labels
    c.in_ok-push_value.ensures.labels c.in_ok-push_value.ensures.equations

pub returns-clause-room : goal.returns-clause-room
returns-clause-room c =
    let context = c.args.context.now in
    let room = uses_fit context.first context.room c.args.made.now.labels _ c.requires.context.room c.in_default.ensures.passed c.requires.room in
    subst (Fits context.first) (sym (c.in_ok-push_value.ensures.labels ∙ c.in_default.ensures.labels)) room
