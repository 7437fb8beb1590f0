use Rattle.std.proofs.Common.{◌≤◌, ◌+◌, ◌∙◌, length, refl, sym, subst}
use Rattle.std.specs.List.{flat_map}
use Rattle.cq_import.specs.Entries.{entries_fault, entry_equations}
use Rattle.cq_import.proofs.Checked.{ended, taken}
use Rattle.cq_import.proofs.Rooms.{Fits}
use Rattle.cq_import.proofs.Stepping.{on_start, on_passed, on_made, entered_refused, entered_more}
use Rattle.cq_import.proofs.entries.read_lines.Goals as goal

pub loop-number-init : goal.loop-number-init
loop-number-init c =
    let over = c.args.over.now in
    let made = c.args.made.now in
    (refl, λ rows remains. on_start c.args.reader.now (entries_fault over.typeside.now over.file.now made.labels 1) made.equations.items (flat_map (entry_equations over.typeside.now over.first made.labels)) rows remains)

pub returns-then-not-branch-clause-passed : goal.returns-then-not-branch-clause-passed
returns-then-not-branch-clause-passed c = λ rows remains.
    let over = c.args.over.now in
    let labels = c.args.made.now.labels in
    let on = c.loop-number.invariant.1 rows remains in
    on_passed _ _ _ (entries_fault over.typeside.now over.file.now labels c.loop-number.number) _ (flat_map (entry_equations over.typeside.now over.first labels)) on
    (ended _ on.others _ _ c.if-not-branch.true (c.in_ok-next.ensures on.others on.remains)) refl

pub returns-then-not-branch-clause-equations : goal.returns-then-not-branch-clause-equations
returns-then-not-branch-clause-equations c = λ rows remains.
    let over = c.args.over.now in
    let labels = c.args.made.now.labels in
    let on = c.loop-number.invariant.1 rows remains in
    on_made _ _ _ (entries_fault over.typeside.now over.file.now labels c.loop-number.number) _ (flat_map (entry_equations over.typeside.now over.first labels)) on
    (ended _ on.others _ _ c.if-not-branch.true (c.in_ok-next.ensures on.others on.remains)) refl

pub read_line-requires : goal.read_line-requires
read_line-requires c = subst (Fits c.args.over.now.first) (sym c.loop-number.invariant.0) c.requires

pub returns-in-Err-clause-refused : goal.returns-in-Err-clause-refused
returns-in-Err-clause-refused c = λ rows remains.
    let over = c.args.over.now in
    let on = c.loop-number.invariant.1 rows remains in
    let takes = taken _ on.others _ _ c.if-not-branch.false (c.in_ok-next.ensures on.others on.remains) in
    entered_refused over.typeside.now over.file.now over.first c.args.made.now.labels _ rows _ _ _ on _ _ takes c.in-Err.refusal c.loop-number.made.labels c.loop-number.invariant.0 c.in-Err.ensures.refused

pub loop-number-preserved : goal.loop-number-preserved
loop-number-preserved c = (
  c.in_default.ensures.labels ∙ c.loop-number.invariant.0,
  (λ rows remains.
      let over = c.args.over.now in
      let on = c.loop-number.invariant.1 rows remains in
      let takes = taken _ on.others _ _ c.if-not-branch.false (c.in_ok-next.ensures on.others on.remains) in
      entered_more over.typeside.now over.file.now over.first c.args.made.now.labels _ rows _ _ _ on _ _ takes c.read_line.new.made.equations.items c.loop-number.made.labels c.loop-number.invariant.0
      c.in_default.ensures.passed c.in_default.ensures.equations),
)
