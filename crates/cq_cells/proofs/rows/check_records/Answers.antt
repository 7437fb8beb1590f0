use Rattle.std.proofs.Common.{◌∙◌, sym, ap}
use Rattle.std.proofs.lemmas.Result.{on_ok_weaker}
use Rattle.cq_import.proofs.Checked.{ended, taken}
use Rattle.cq_cells.specs.Found.{sheet_found}
use Rattle.cq_cells.proofs.Listing.{lists_same}
use Rattle.cq_cells.proofs.Rowing.{noted_behind, other_header, right_header}
use Rattle.cq_cells.proofs.rows.check_records.Goals as goal

pub returns-then-not-branch-clause-found : goal.returns-then-not-branch-clause-found
returns-then-not-branch-clause-found c = λ rows remains.
    let none = ended _ rows _ _ c.if-not-branch.true (c.in_ok-next.ensures rows remains) in
    lists_same _ _ _ _ (λ name. sym (ap (sheet_found (name c.args.tested.now.file) c.args.tested.now.wanted.now) none)) c.in_ok-add_to_file.ensures.found

pub returns-then-not-branch-clause-noted : goal.returns-then-not-branch-clause-noted
returns-then-not-branch-clause-noted c = λ rows remains none. absurd (c.in_ok-add_to_file.ensures.some none)

pub returns-then-not-is_same-clause-found : goal.returns-then-not-is_same-clause-found
returns-then-not-is_same-clause-found c = λ rows remains.
    let takes = taken _ rows _ _ c.if-not-branch.false (c.in_ok-next.ensures rows remains) in
    lists_same _ _ _ _
    (λ name. sym (ap (sheet_found (name c.args.tested.now.file) c.args.tested.now.wanted.now) takes.first
    ∙ other_header (name c.args.tested.now.file) c.args.tested.now.wanted.now _ takes.others (sym c.is_same.ensures ∙ c.if-not-is_same.true)))
    c.in_ok-add_to_file-2.ensures.found

pub returns-then-not-is_same-clause-noted : goal.returns-then-not-is_same-clause-noted
returns-then-not-is_same-clause-noted c = λ rows remains none. absurd (c.in_ok-add_to_file-2.ensures.some none)

pub returns-clause-found : goal.returns-clause-found
returns-clause-found c = λ rows remains.
    let takes = taken _ rows _ _ c.if-not-branch.false (c.in_ok-next.ensures rows remains) in
    on_ok_weaker c.check_rows.result
    (lists_same _ _ _ _
    (λ name. sym (ap (sheet_found (name c.args.tested.now.file) c.args.tested.now.wanted.now) takes.first
    ∙ right_header (name c.args.tested.now.file) c.args.tested.now.wanted.now _ takes.others (sym c.is_same.ensures ∙ c.if-not-is_same.false))))
    (c.check_rows.ensures.found takes.others takes.remains)

pub returns-clause-noted : goal.returns-clause-noted
returns-clause-noted c = λ rows remains.
    let takes = taken _ rows _ _ c.if-not-branch.false (c.in_ok-next.ensures rows remains) in
    noted_behind c.check_rows.result rows _ takes.others _ _ takes.first (c.check_rows.ensures.noted takes.others takes.remains)
