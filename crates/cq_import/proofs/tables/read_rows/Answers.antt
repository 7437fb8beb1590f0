use Rattle.std.proofs.Common.{ℕ, List, [], ◌∷◌, ◌++◌, ◌+◌, ◌-◌, ◌≤◌, ◌≡◌, ◌∙◌, length, refl, sym, ap, subst, arith}
use Rattle.csv.specs.Records.{fields_of}
use Rattle.cq_import.proofs.CellLists.{reading_start}
use Rattle.cq_import.proofs.Checked.{ended, taken}
use Rattle.cq_import.proofs.Tabled.{tabled_start, tabled_all, tabled_refused, tabled_more}
use Rattle.cq_import.proofs.tables.read_rows.Goals as goal

pub loop-number-init : goal.loop-number-init
loop-number-init c = (c.requires.room, omega arith, λ rows remains few. tabled_start _ _ _ _ _ _ rows remains few)

pub returns-then-not-branch-clause-passed : goal.returns-then-not-branch-clause-passed
returns-then-not-branch-clause-passed c = λ rows remains few.
    let tabled = c.loop-number.invariant.2 rows remains few in
    tabled_all _ _ _ _ _ _ _ _ rows tabled (ended _ tabled.others _ _ c.if-not-branch.true (c.in_ok-next.ensures tabled.others tabled.remains))

pub returns-in-Err-clause-refused : goal.returns-in-Err-clause-refused
returns-in-Err-clause-refused c = λ rows remains few.
    let tabled = c.loop-number.invariant.2 rows remains few in
    let takes = taken _ tabled.others _ _ c.if-not-branch.false (c.in_ok-next.ensures tabled.others tabled.remains) in
    tabled_refused _ _ _ _ _ _ _ _ rows tabled _ _ takes _ c.saturating_add.ensures c.in-Err.refusal c.in-Err.ensures.refused

pub loop-number-preserved : goal.loop-number-preserved
loop-number-preserved c = (
  c.in_default.ensures.room,
  omega arith,
  (λ rows remains few.
      let tabled = c.loop-number.invariant.2 rows remains few in
      let takes = taken _ tabled.others _ _ c.if-not-branch.false (c.in_ok-next.ensures tabled.others tabled.remains) in
      tabled_more _ _ _ _ _ _ _ _ rows tabled _ _ takes _ c.saturating_add.ensures c.loop-number.invariant.1 c.read_row.new.made c.in_default.ensures.passed),
)
