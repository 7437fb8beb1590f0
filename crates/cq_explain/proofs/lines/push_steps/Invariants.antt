use Rattle.std.proofs.Common.{◌≡◌, ◌++◌, take}
use Rattle.cq_explain.specs.Explanation.{step_lines}
use Rattle.cq_explain.proofs.lines.push_steps.Given as goal

abbrev pub invariant-loop-number : goal.invariant-loop-number
invariant-loop-number l = l.text.items ≡ l.initial.text.items ++ step_lines l.schema l.presentation (take l.number l.steps)
