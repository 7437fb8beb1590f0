use Rattle.std.proofs.Common.{◌+◌, ◌≤◌, ◌∙◌, length, sym, subst}
use Rattle.std.proofs.lemmas.Result.{on_ok_weaker, MatchResult-weaker}
use Rattle.cq_import.specs.Rows.{rows_of}
use Rattle.cq_import.proofs.Joined.{cells_refused, rest_made, rest_passed, rest_refused, same_labels}
use Rattle.cq_import.proofs.presenting_entries.read_rest.Goals as goal

pub read_entries-requires : goal.read_entries-requires
read_entries-requires c = subst (λ n. n + length c.read_cells.new.made.labels ≤ 16000000) (sym c.requires.first) c.in_default.ensures.room

pub returns-in-Err-clause-refused : goal.returns-in-Err-clause-refused
returns-in-Err-clause-refused c =
    cells_refused c.args.context.now c.args.made.now c.requires.given (rows_of c.args.text.now) c.args.over.now.file.now c.in-Err.refusal c.in-Err.ensures.refused

pub returns-clause-passed : goal.returns-clause-passed
returns-clause-passed c =
    on_ok_weaker c.read_entries.result
    (rest_passed c.args.context.now c.args.made.now c.requires.given c.read_cells.new.made c.in_default.ensures.passed c.args.over.now.typeside.now c.requires.typeside (rows_of c.args.text.now) c.args.over.now.file.now)
    c.read_entries.ensures.passed

pub returns-clause-labels : goal.returns-clause-labels
returns-clause-labels c =
    on_ok_weaker c.read_entries.result (λ e. e ∙ same_labels c.args.context.now c.args.made.now c.requires.given c.read_cells.new.made c.in_default.ensures.passed) c.read_entries.ensures.labels

pub returns-clause-equations : goal.returns-clause-equations
returns-clause-equations c =
    on_ok_weaker c.read_entries.result
    (rest_made c.args.context.now c.args.made.now c.requires.given c.read_cells.new.made c.in_default.ensures.passed c.args.over.now.typeside.now c.requires.typeside (rows_of c.args.text.now)
    c.args.over.now.first c.requires.first c.read_entries.new.made)
    c.read_entries.ensures.equations

pub returns-clause-refused : goal.returns-clause-refused
returns-clause-refused c =
    MatchResult-weaker c.read_entries.result c.read_entries.ensures.refused (λ done ok. ok)
    (λ r refuses.
    rest_refused c.args.context.now c.args.made.now c.requires.given c.read_cells.new.made c.in_default.ensures.passed c.args.over.now.typeside.now c.requires.typeside (rows_of c.args.text.now)
    c.args.over.now.file.now r refuses)
