use Rattle.cq_import.proofs.Checked.{ended, taken}
use Rattle.cq_cells.proofs.Tabling.{tabled_all, tabled_done, tabled_more, tabled_start}
use Rattle.cq_cells.proofs.tables.read_rows.Goals as goal

pub loop-number-init : goal.loop-number-init
loop-number-init c = λ rows generator remains. tabled_start _ _ _ generator _ _ rows remains

pub returns-then-is_done : goal.returns-then-is_done
returns-then-is_done c = λ rows generator remains.
    tabled_done _ _ _ generator _ _ _ _ rows (c.loop-number.invariant rows generator remains) (c.is_done.ensures c.args.over.now c.if-is_done.true)

pub returns-then-not-branch : goal.returns-then-not-branch
returns-then-not-branch c = λ rows generator remains.
    let tabled = c.loop-number.invariant rows generator remains in
    tabled_all _ _ _ generator _ _ _ _ rows tabled (ended _ tabled.others _ _ c.if-not-branch.true (c.in_ok-next.ensures tabled.others tabled.remains))

pub loop-number-preserved : goal.loop-number-preserved
loop-number-preserved c = λ rows generator remains.
    let tabled = c.loop-number.invariant rows generator remains in
    let takes = taken _ tabled.others _ _ c.if-not-branch.false (c.in_ok-next.ensures tabled.others tabled.remains) in
    tabled_more _ _ _ generator _ _ _ _ rows tabled _ _ takes _ c.in_ok-read_row.ensures
