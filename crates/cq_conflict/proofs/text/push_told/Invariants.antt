use Rattle.std.proofs.Common.{◌≡◌, ◌++◌, take}
use Rattle.cq_conflict.specs.Text.{told_lines}
use Rattle.cq_conflict.proofs.text.push_told.Given as goal

abbrev pub invariant-loop-line : goal.invariant-loop-line
invariant-loop-line l = l.text.items ≡ l.initial.text.items ++ told_lines l.shown.schema.now l.shown.presentation.now l.shown.steps.now l.shown.notes.now (take l.line l.told)
