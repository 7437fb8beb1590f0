use Rattle.std.proofs.Common.{List, [], ◌+◌, ◌≤◌, length, drop, refl, sym, ap, subst}
use Rattle.std.proofs.lemmas.Result.{on_ok_weaker, MatchResult-weaker}
use Rattle.cq_import.specs.Cells.{rows_cells}
use Rattle.cq_import.specs.Context.{Reads, faults_in}
use Rattle.cq_import.specs.Records.{Record}
use Rattle.cq_import.proofs.CellLists.{reading_all, reading_start}
use Rattle.cq_import.proofs.Checked.{ended, taken}
use Rattle.cq_import.proofs.Faulty.{refuses_same}
use Rattle.cq_import.proofs.tables.read_records.Goals as goal

pub returns-then-not-branch-clause-passed : goal.returns-then-not-branch-clause-passed
returns-then-not-branch-clause-passed c = λ rows remains few.
    let none = ended _ rows _ _ c.if-not-branch.true (c.in_ok-next.ensures rows remains) in
    let table = c.args.table.now in
    subst (λ (r : List Record). Reads c.args.context.now c.args.made.now c.args.made.now (rows_cells table.file.now table.columns.now table.start 1 (drop 1 r))) (sym none)
    (reading_all c.args.context.now c.args.made.now c.args.made.now [] [] (reading_start c.args.context.now c.args.made.now []) refl)

pub returns-clause-passed : goal.returns-clause-passed
returns-clause-passed c = λ rows remains few.
    let takes = taken _ rows _ _ c.if-not-branch.false (c.in_ok-next.ensures rows remains) in
    let table = c.args.table.now in
    on_ok_weaker c.read_rows.result
    (subst (λ (r : List Record). Reads c.args.context.now c.args.made.now c.read_rows.new.made (rows_cells table.file.now table.columns.now table.start 1 (drop 1 r))) (sym takes.first))
    (c.read_rows.ensures.passed takes.others takes.remains (subst (λ (l : List Record). table.start + length (drop 1 l) ≤ 16000000) takes.first few))

pub returns-clause-refused : goal.returns-clause-refused
returns-clause-refused c = λ rows remains few.
    let takes = taken _ rows _ _ c.if-not-branch.false (c.in_ok-next.ensures rows remains) in
    let table = c.args.table.now in
    MatchResult-weaker c.read_rows.result (c.read_rows.ensures.refused takes.others takes.remains (subst (λ (l : List Record). table.start + length (drop 1 l) ≤ 16000000) takes.first few)) (λ done ok. ok)
    (λ r refuses. refuses_same r _ _ (ap (λ (l : List Record). faults_in c.args.context.now c.args.made.now (rows_cells table.file.now table.columns.now table.start 1 (drop 1 l))) (sym takes.first)) refuses)
