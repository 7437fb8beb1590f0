use Rattle.std.proofs.Common.{◌++◌, sym, ap, ◌∙◌}
use Rattle.std.specs.List.{flat_map}
use Rattle.std.proofs.lemmas.List.{append-nil}
use Rattle.cq_import.specs.Entries.{entries_fault, entry_equations}
use Rattle.cq_import.specs.Rows.{rows_of}
use Rattle.cq_import.proofs.Stepping.{none_behind}
use Rattle.cq_import.proofs.entries.read_entries.Goals as goal

pub returns-in_default-clause-passed : goal.returns-in_default-clause-passed
returns-in_default-clause-passed c =
    let none = none_behind c.args.text.now (rw c.in_default.is at c.in_ok-opened.ensures) in
    ap (entries_fault c.args.over.now.typeside.now c.args.over.now.file.now c.args.made.now.labels 1) none

pub returns-in_default-clause-equations : goal.returns-in_default-clause-equations
returns-in_default-clause-equations c =
    let none = none_behind c.args.text.now (rw c.in_default.is at c.in_ok-opened.ensures) in
    let made = c.args.made.now in
    sym (ap (λ l. made.equations.items ++ flat_map (entry_equations c.args.over.now.typeside.now c.args.over.now.first made.labels) l) none ∙ append-nil made.equations.items)

pub returns-in-Ok-clause-passed : goal.returns-in-Ok-clause-passed
returns-in-Ok-clause-passed c = c.in-Ok.ensures.passed (rows_of c.args.text.now) (rw c.in-Some.is at c.in_ok-opened.ensures)

pub returns-in-Ok-clause-equations : goal.returns-in-Ok-clause-equations
returns-in-Ok-clause-equations c = c.in-Ok.ensures.equations (rows_of c.args.text.now) (rw c.in-Some.is at c.in_ok-opened.ensures)

pub returns-clause-refused : goal.returns-clause-refused
returns-clause-refused c = c.in-Err.ensures.refused (rows_of c.args.text.now) (rw c.in-Some.is at c.in_ok-opened.ensures)
