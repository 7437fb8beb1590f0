use Rattle.std.proofs.Common.{List, ◌≡◌, ◌∙◌, sym, ap, drop}
use Rattle.std.proofs.lemmas.Result.{on_ok_weaker, MatchResult-weaker}
use Rattle.cq_import.specs.Records.{Record}
use Rattle.cq_import.specs.Rows.{ids_of, sheet_fault}
use Rattle.cq_import.proofs.Faulty.{refuses_same}
use Rattle.cq_import.proofs.Checked.{ended, taken, other_header, right_header}
use Rattle.cq_import.proofs.rows.check_records.Goals as goal

pub returns-then-not-branch-clause-refused : goal.returns-then-not-branch-clause-refused
returns-then-not-branch-clause-refused c = λ rows remains.
    let none = ended _ rows _ _ c.if-not-branch.true (c.in_ok-next.ensures rows remains) in
    refuses_same _ _ _ (sym (ap (sheet_fault c.args.file.now c.args.wanted.now) none)) c.bad_header.ensures

pub returns-then-not-is_same-clause-refused : goal.returns-then-not-is_same-clause-refused
returns-then-not-is_same-clause-refused c = λ rows remains.
    let takes = taken _ rows _ _ c.if-not-branch.false (c.in_ok-next.ensures rows remains) in
    let other = other_header c.args.file.now c.args.wanted.now _ takes.others (sym c.is_same.ensures ∙ c.if-not-is_same.true) in
    refuses_same _ _ _ (sym (ap (sheet_fault c.args.file.now c.args.wanted.now) takes.first ∙ other)) c.bad_header-then-not-is_same.ensures

pub returns-clause-passed : goal.returns-clause-passed
returns-clause-passed c = λ rows remains.
    let takes = taken _ rows _ _ c.if-not-branch.false (c.in_ok-next.ensures rows remains) in
    let right = right_header c.args.file.now c.args.wanted.now _ takes.others (sym c.is_same.ensures ∙ c.if-not-is_same.false) in
    let whole = ap (sheet_fault c.args.file.now c.args.wanted.now) takes.first ∙ right in
    on_ok_weaker c.check_rows.result (λ none. whole ∙ none) (c.check_rows.ensures.passed takes.others takes.remains)

pub returns-clause-added : goal.returns-clause-added
returns-clause-added c = λ rows remains.
    let takes = taken _ rows _ _ c.if-not-branch.false (c.in_ok-next.ensures rows remains) in
    on_ok_weaker c.check_rows.result (λ added. added ∙ ap (λ (l : List Record). ids_of (drop 1 l)) (sym takes.first)) (c.check_rows.ensures.added takes.others takes.remains)

pub returns-clause-refused : goal.returns-clause-refused
returns-clause-refused c = λ rows remains.
    let takes = taken _ rows _ _ c.if-not-branch.false (c.in_ok-next.ensures rows remains) in
    let right = right_header c.args.file.now c.args.wanted.now _ takes.others (sym c.is_same.ensures ∙ c.if-not-is_same.false) in
    let whole = ap (sheet_fault c.args.file.now c.args.wanted.now) takes.first ∙ right in
    MatchResult-weaker c.check_rows.result (c.check_rows.ensures.refused takes.others takes.remains) (λ done ok. ok) (λ r refuses. refuses_same r _ _ (sym whole) refuses)
