use Rattle.std.proofs.Common.{refl}
use Rattle.cq_import.specs.Entries.{given, nulls_fault}
use Rattle.cq_import.proofs.Checked.{ended, taken}
use Rattle.cq_import.proofs.Stepping.{on_start, on_passed, on_made, given_refused, given_more}
use Rattle.cq_import.proofs.nulls.read_lines.Goals as goal

pub loop-number-init : goal.loop-number-init
loop-number-init c = λ rows remains. on_start c.args.reader.now (nulls_fault c.args.typeside.now c.args.file.now c.args.labels.now 1) c.args.labels.now (given c.args.typeside.now) rows remains

pub returns-then-not-branch-clause-passed : goal.returns-then-not-branch-clause-passed
returns-then-not-branch-clause-passed c = λ rows remains.
    let on = c.loop-number.invariant rows remains in
    on_passed _ _ _ (nulls_fault c.args.typeside.now c.args.file.now c.loop-number.labels c.loop-number.number) _ (given c.args.typeside.now) on
    (ended _ on.others _ _ c.if-not-branch.true (c.in_ok-next.ensures on.others on.remains)) refl

pub returns-then-not-branch-clause-added : goal.returns-then-not-branch-clause-added
returns-then-not-branch-clause-added c = λ rows remains.
    let on = c.loop-number.invariant rows remains in
    on_made _ _ _ (nulls_fault c.args.typeside.now c.args.file.now c.loop-number.labels c.loop-number.number) _ (given c.args.typeside.now) on
    (ended _ on.others _ _ c.if-not-branch.true (c.in_ok-next.ensures on.others on.remains)) refl

pub returns-in-Err-clause-refused : goal.returns-in-Err-clause-refused
returns-in-Err-clause-refused c = λ rows remains.
    let on = c.loop-number.invariant rows remains in
    let takes = taken _ on.others _ _ c.if-not-branch.false (c.in_ok-next.ensures on.others on.remains) in
    given_refused c.args.typeside.now c.args.file.now _ rows _ _ _ on _ _ takes c.in-Err.refusal c.in-Err.ensures.refused

pub loop-number-preserved : goal.loop-number-preserved
loop-number-preserved c = λ rows remains.
    let on = c.loop-number.invariant rows remains in
    let takes = taken _ on.others _ _ c.if-not-branch.false (c.in_ok-next.ensures on.others on.remains) in
    given_more c.args.typeside.now c.args.file.now _ rows _ _ _ on _ _ takes c.read_line.new.labels c.in_default.ensures.passed c.in_default.ensures.added
