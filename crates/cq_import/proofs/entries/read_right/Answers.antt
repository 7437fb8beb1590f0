use Rattle.std.proofs.Common.{sym, ap, ◌∙◌}
use Rattle.cq_values.specs.Reading.{value_in}
use Rattle.cq_import.specs.Entries.{right_fault, trouble_in}
use Rattle.cq_import.specs.Faults.{BadCell}
use Rattle.cq_import.proofs.Faulty.{refuses_same}
use Rattle.cq_import.proofs.entries.read_right.Goals as goal

pub returns-in_default-clause-refused : goal.returns-in_default-clause-refused
returns-in_default-clause-refused c =
    let over = c.args.over.now in
    let none = sym (c.in_ok-value.ensures.told ∙ ap (value_in over.typeside.now c.args.sort) c.field.ensures) ∙ c.in_default.is in
    refuses_same _ _ _ (sym (ap (right_fault over.typeside.now over.file.now c.args.labels.now c.args.number c.args.sort) none)) c.wrong.ensures

pub returns-then-branch-clause-read : goal.returns-then-branch-clause-read
returns-then-branch-clause-read c = sym (c.in_ok-value.ensures.told ∙ ap (value_in c.args.over.now.typeside.now c.args.sort) c.field.ensures) ∙ c.in-Some.is

pub returns-then-branch-clause-passed : goal.returns-then-branch-clause-passed
returns-then-branch-clause-passed c =
    let over = c.args.over.now in
    let some = sym (c.in_ok-value.ensures.told ∙ ap (value_in over.typeside.now c.args.sort) c.field.ensures) ∙ c.in-Some.is in
    ap (right_fault over.typeside.now over.file.now c.args.labels.now c.args.number c.args.sort) some
    ∙ ap (λ o. trouble_in o (BadCell over.file.now c.args.number 3)) (c.in_ok-are_given.ensures.told c.if-branch.true)

pub returns-else-branch-clause-refused : goal.returns-else-branch-clause-refused
returns-else-branch-clause-refused c =
    let over = c.args.over.now in
    let some = sym (c.in_ok-value.ensures.told ∙ ap (value_in over.typeside.now c.args.sort) c.field.ensures) ∙ c.in-Some.is in
    refuses_same _ _ _
    (sym (ap (right_fault over.typeside.now over.file.now c.args.labels.now c.args.number c.args.sort) some ∙ c.in_ok-are_given.ensures.wrong c.if-branch.false (BadCell over.file.now c.args.number 3))) c.wrong-else-branch.ensures
