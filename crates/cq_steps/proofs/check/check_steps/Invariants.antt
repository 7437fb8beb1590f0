use Rattle.std.proofs.Common.{ℕ, ◌≡◌, ◌<◌, take, Some}
use Rattle.std.specs.Prelude.{slice_get}
use Rattle.cq_steps.specs.declared.step.Step.{Step}
use Rattle.cq_steps.specs.Right.{IsRight}
use Rattle.cq_steps.proofs.check.check_steps.Given as goal

abbrev pub invariant-loop-n : goal.invariant-loop-n
invariant-loop-n l = (m : ℕ) (step : Step) → m < l.n → slice_get l.steps m ≡ Some step → IsRight l.schema l.presentation (take m l.steps) step
