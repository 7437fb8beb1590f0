use Rattle.std.proofs.Common.{◌+◌, ◌++◌, sym, ap, arith, length}
use Rattle.std.proofs.lemmas.List.{length_push}
use Rattle.csv.specs.Records.{fields_of}
use Rattle.cq_import.specs.Rows.{id_of, ids_of, rows_fault}
use Rattle.cq_import.proofs.Checked.{ended, taken, all_passed, all_added, one_refused, one_checked}
use Rattle.cq_import.proofs.rows.check_rows.Goals as goal

pub loop-number-init : goal.loop-number-init
loop-number-init c = (
  ap (λ ids. length ids + 1) c.requires,
  (λ rows remains. record {
    others = rows;
    remains = remains;
    fault = ap (λ ids. rows_fault c.args.file.now c.args.count ids 1 rows) (sym c.requires);
    all_ids = ap (λ ids. ids ++ ids_of rows) (sym c.requires);
  }),
)

pub returns-then-not-branch-clause-passed : goal.returns-then-not-branch-clause-passed
returns-then-not-branch-clause-passed c = λ rows remains.
    let checked = c.loop-number.invariant.1 rows remains in
    all_passed _ _ _ _ _ rows checked (ended _ checked.others _ _ c.if-not-branch.true (c.in_ok-next.ensures checked.others checked.remains))

pub returns-then-not-branch-clause-added : goal.returns-then-not-branch-clause-added
returns-then-not-branch-clause-added c = λ rows remains.
    let checked = c.loop-number.invariant.1 rows remains in
    all_added _ _ _ _ _ rows checked (ended _ checked.others _ _ c.if-not-branch.true (c.in_ok-next.ensures checked.others checked.remains))

pub returns-in-Err-clause-refused : goal.returns-in-Err-clause-refused
returns-in-Err-clause-refused c = λ rows remains.
    let checked = c.loop-number.invariant.1 rows remains in
    let takes = taken _ checked.others _ _ c.if-not-branch.false (c.in_ok-next.ensures checked.others checked.remains) in
    one_refused _ _ _ _ _ rows checked _ _ takes c.in-Err.refusal c.in-Err.ensures.refused

pub loop-number-preserved : goal.loop-number-preserved
loop-number-preserved c = (
  omega (arith, c.loop-number.invariant.0, ap length c.in_default.ensures.added, length_push c.loop-number.ids (id_of (fields_of c.next.new.fields))),
  (λ rows remains.
      let checked = c.loop-number.invariant.1 rows remains in
      let takes = taken _ checked.others _ _ c.if-not-branch.false (c.in_ok-next.ensures checked.others checked.remains) in
      one_checked _ _ _ _ _ rows checked _ _ takes c.check_row.new.ids c.in_default.ensures.passed c.in_default.ensures.added),
)
