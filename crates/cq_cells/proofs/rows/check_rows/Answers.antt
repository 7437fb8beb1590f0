use Rattle.std.proofs.Common.{◌+◌, ap}
use Rattle.cq_import.proofs.Checked.{ended, taken}
use Rattle.cq_cells.proofs.Rowing.{found_all, found_more, found_start, noted_all, noted_count, noted_more, noted_start}
use Rattle.cq_cells.proofs.rows.check_rows.Goals as goal

pub loop-number-init : goal.loop-number-init
loop-number-init c = (λ rows remains. found_start _ _ _ _ _ rows c.requires remains, λ rows remains. noted_start _ _ rows c.requires remains)

pub returns-then-not-branch-clause-found : goal.returns-then-not-branch-clause-found
returns-then-not-branch-clause-found c = λ rows remains.
    let on = c.loop-number.invariant.0 rows remains in
    found_all _ _ _ _ _ _ _ rows on (ended _ on.others _ _ c.if-not-branch.true (c.in_ok-next.ensures on.others on.remains))

pub returns-then-not-branch-clause-noted : goal.returns-then-not-branch-clause-noted
returns-then-not-branch-clause-noted c = λ rows remains.
    let on = c.loop-number.invariant.1 rows remains in
    let none = ended _ on.others _ _ c.if-not-branch.true (c.in_ok-next.ensures on.others on.remains) in
    (noted_all _ _ _ rows on none, noted_count _ _ _ rows on none)

pub loop-number-preserved : goal.loop-number-preserved
loop-number-preserved c = (
  λ rows remains.
      let on = c.loop-number.invariant.0 rows remains in
      let takes = taken _ on.others _ _ c.if-not-branch.false (c.in_ok-next.ensures on.others on.remains) in
      found_more _ _ _ _ _ _ _ rows on _ _ takes _ _ (c.in_ok-check_row.ensures.index on.ids on.index on.many) (c.in_ok-check_row.ensures.found on.ids on.index),
  λ rows remains.
      let on = c.loop-number.invariant.1 rows remains in
      let takes = taken _ on.others _ _ c.if-not-branch.false (c.in_ok-next.ensures on.others on.remains) in
      noted_more _ _ _ rows on _ _ takes _ (c.in_ok-check_row.ensures.index on.ids on.index (ap (λ n. n + 1) on.many)),
)
