use Rattle.std.proofs.Common.{◌++◌, sym, ap, ◌∙◌}
use Rattle.std.proofs.lemmas.List.{append-nil}
use Rattle.cq_import.specs.Entries.{given, nulls_fault}
use Rattle.cq_import.specs.Rows.{rows_of}
use Rattle.cq_import.proofs.Stepping.{none_behind}
use Rattle.cq_import.proofs.nulls.read_nulls.Goals as goal

pub returns-in_default-clause-passed : goal.returns-in_default-clause-passed
returns-in_default-clause-passed c =
    let none = none_behind c.args.text.now (rw c.in_default.is at c.in_ok-opened.ensures) in
    ap (nulls_fault c.args.typeside.now c.args.file.now c.args.labels.now 1) none

pub returns-in_default-clause-added : goal.returns-in_default-clause-added
returns-in_default-clause-added c =
    let none = none_behind c.args.text.now (rw c.in_default.is at c.in_ok-opened.ensures) in
    sym (ap (λ l. c.args.labels.now ++ given c.args.typeside.now l) none ∙ append-nil c.args.labels.now)

pub returns-in-Ok-clause-passed : goal.returns-in-Ok-clause-passed
returns-in-Ok-clause-passed c = c.in-Ok.ensures.passed (rows_of c.args.text.now) (rw c.in-Some.is at c.in_ok-opened.ensures)

pub returns-in-Ok-clause-added : goal.returns-in-Ok-clause-added
returns-in-Ok-clause-added c = c.in-Ok.ensures.added (rows_of c.args.text.now) (rw c.in-Some.is at c.in_ok-opened.ensures)

pub returns-clause-refused : goal.returns-clause-refused
returns-clause-refused c = c.in-Err.ensures.refused (rows_of c.args.text.now) (rw c.in-Some.is at c.in_ok-opened.ensures)
