use Rattle.std.proofs.Common.{List, ◌≡◌, ◌∙◌, length, drop, filter, sym, ap}
use Rattle.std.proofs.lemmas.Result.{on_ok_weaker, MatchResult-weaker}
use Rattle.csv.specs.Records.{fields_of}
use Rattle.cq_import.specs.Entries.{is_null, marked_fault}
use Rattle.cq_import.specs.Records.{Record}
use Rattle.cq_import.specs.Rows.{same_record}
use Rattle.cq_import.proofs.Faulty.{refuses_same}
use Rattle.cq_import.proofs.Checked.{ended, taken}
use Rattle.cq_import.proofs.Stepping.{other_mark, right_mark}
use Rattle.cq_import.proofs.lines.check_records.Goals as goal

pub returns-then-not-branch-clause-refused : goal.returns-then-not-branch-clause-refused
returns-then-not-branch-clause-refused c = λ rows remains.
    let none = ended _ rows _ _ c.if-not-branch.true (c.in_ok-next.ensures rows remains) in
    refuses_same _ _ _ (sym (ap (marked_fault c.args.file.now) none)) c.bad_header.ensures

pub returns-then-not-is_same-clause-refused : goal.returns-then-not-is_same-clause-refused
returns-then-not-is_same-clause-refused c = λ rows remains.
    let takes = taken _ rows _ _ c.if-not-branch.false (c.in_ok-next.ensures rows remains) in
    let other = other_mark c.args.file.now (fields_of c.next.new.fields) takes.others (sym (c.is_same.ensures ∙ ap (same_record (fields_of c.next.new.fields)) c.requires) ∙ c.if-not-is_same.true) in
    refuses_same _ _ _ (sym (ap (marked_fault c.args.file.now) takes.first ∙ other)) c.bad_header-then-not-is_same.ensures

pub returns-clause-passed : goal.returns-clause-passed
returns-clause-passed c = λ rows remains.
    let takes = taken _ rows _ _ c.if-not-branch.false (c.in_ok-next.ensures rows remains) in
    let right = right_mark c.args.file.now (fields_of c.next.new.fields) takes.others (sym (c.is_same.ensures ∙ ap (same_record (fields_of c.next.new.fields)) c.requires) ∙ c.if-not-is_same.false) in
    let whole = ap (marked_fault c.args.file.now) takes.first ∙ right in
    on_ok_weaker c.check_lines.result (λ none. whole ∙ none) (c.check_lines.ensures.passed takes.others takes.remains)

pub returns-clause-count : goal.returns-clause-count
returns-clause-count c = λ rows remains.
    let takes = taken _ rows _ _ c.if-not-branch.false (c.in_ok-next.ensures rows remains) in
    MatchResult-weaker c.check_lines.result (c.check_lines.ensures.count takes.others takes.remains)
    (λ nulls is. is ∙ ap (λ (l : List Record). length (filter is_null (drop 1 l))) (sym takes.first)) (λ r ok. ok)

pub returns-clause-refused : goal.returns-clause-refused
returns-clause-refused c = λ rows remains.
    let takes = taken _ rows _ _ c.if-not-branch.false (c.in_ok-next.ensures rows remains) in
    let right = right_mark c.args.file.now (fields_of c.next.new.fields) takes.others (sym (c.is_same.ensures ∙ ap (same_record (fields_of c.next.new.fields)) c.requires) ∙ c.if-not-is_same.false) in
    let whole = ap (marked_fault c.args.file.now) takes.first ∙ right in
    MatchResult-weaker c.check_lines.result (c.check_lines.ensures.refused takes.others takes.remains) (λ done ok. ok) (λ r refuses. refuses_same r _ _ (sym whole) refuses)
