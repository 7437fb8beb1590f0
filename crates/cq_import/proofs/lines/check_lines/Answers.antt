use Rattle.std.proofs.Common.{◌+◌, ◌≤◌, ◌∙◌, Bool, true, false, sym, arith}
use Rattle.std.specs.Prelude.{if◌then◌else◌}
use Rattle.csv.specs.Records.{fields_of}
use Rattle.cq_import.specs.Entries.{is_null}
use Rattle.cq_import.proofs.Checked.{ended, taken}
use Rattle.cq_import.proofs.Faulty.{refuses_same}
use Rattle.cq_import.proofs.Stepping.{counted_start, counted_passed, counted_all, counted_refused, counted_more, line_passes, line_fails}
use Rattle.cq_import.proofs.lines.check_lines.Goals as goal

at_most_one : (b : Bool) → (if b then 1 else 0) ≤ 1
at_most_one true = omega arith
at_most_one false = omega arith

pub loop-number-init : goal.loop-number-init
loop-number-init c = (omega arith, λ rows remains. counted_start c.args.file.now rows c.args.reader.now remains)

pub returns-then-not-branch-clause-passed : goal.returns-then-not-branch-clause-passed
returns-then-not-branch-clause-passed c = λ rows remains.
    let counted = c.loop-number.invariant.1 rows remains in
    counted_passed _ rows _ _ _ counted (ended _ counted.on.others _ _ c.if-not-branch.true (c.in_ok-next.ensures counted.on.others counted.on.remains))

pub returns-then-not-branch-clause-count : goal.returns-then-not-branch-clause-count
returns-then-not-branch-clause-count c = λ rows remains.
    let counted = c.loop-number.invariant.1 rows remains in
    counted_all _ rows _ _ _ counted (ended _ counted.on.others _ _ c.if-not-branch.true (c.in_ok-next.ensures counted.on.others counted.on.remains))

pub loop-number-preserved : goal.loop-number-preserved
loop-number-preserved c = (
  omega (arith, c.counted-nulls.ensures, c.loop-number.invariant.0, at_most_one (is_null (fields_of c.next.new.fields))),
  (λ rows remains.
      let counted = c.loop-number.invariant.1 rows remains in
      let takes = taken _ counted.on.others _ _ c.if-not-branch.false (c.in_ok-next.ensures counted.on.others counted.on.remains) in
      counted_more _ rows _ _ _ counted _ _ takes _ (line_passes _ _ _ (sym c.is_row.ensures ∙ c.if-not-is_row.false)) c.counted-nulls.ensures),
)

pub returns-then-not-is_row-clause-refused : goal.returns-then-not-is_row-clause-refused
returns-then-not-is_row-clause-refused c = λ rows remains.
    let counted = c.loop-number.invariant.1 rows remains in
    let takes = taken _ counted.on.others _ _ c.if-not-branch.false (c.in_ok-next.ensures counted.on.others counted.on.remains) in
    counted_refused _ rows _ _ _ counted _ _ takes _ (refuses_same _ _ _ (sym (line_fails _ _ _ (sym c.is_row.ensures ∙ c.if-not-is_row.true))) c.not_csv.ensures)
