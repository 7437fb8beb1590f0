use Rattle.std.proofs.Common.{sym, ap, ◌∙◌}
use Rattle.csv.specs.Records.{fields_of}
use Rattle.cq_values.specs.Built.{built_in}
use Rattle.cq_import.specs.Faults.{BadCell}
use Rattle.cq_import.proofs.Faulty.{refuses_same}
use Rattle.cq_import.proofs.Sides.{left_missing, left_wrong}
use Rattle.cq_import.proofs.entries.read_left.Goals as goal

pub returns-in_default-clause-refused : goal.returns-in_default-clause-refused
returns-in_default-clause-refused c = λ right.
    let over = c.args.over.now in
    let none = sym (c.in_ok-sort.ensures ∙ ap (built_in over.typeside.now) c.field.ensures) ∙ c.in_default.is in
    refuses_same _ _ _ (sym (left_missing over.typeside.now over.file.now c.args.labels.now c.args.number _ none right)) c.wrong.ensures

pub returns-then-branch-clause-read : goal.returns-then-branch-clause-read
returns-then-branch-clause-read c = sym (c.in_ok-sort.ensures ∙ ap (built_in c.args.over.now.typeside.now) c.field.ensures) ∙ c.in-Some.is

pub returns-else-branch-clause-refused : goal.returns-else-branch-clause-refused
returns-else-branch-clause-refused c = λ right.
    let over = c.args.over.now in
    let some = sym (c.in_ok-sort.ensures ∙ ap (built_in over.typeside.now) c.field.ensures) ∙ c.in-Some.is in
    let fault = BadCell over.file.now c.args.number 2 in
    refuses_same _ _ _ (sym (left_wrong over.typeside.now over.file.now c.args.labels.now c.args.number _ c.in-Some.sort c.in-Some.value some fault (c.in_ok-are_given.ensures.wrong c.if-branch.false fault) right)) c.wrong-else-branch.ensures
