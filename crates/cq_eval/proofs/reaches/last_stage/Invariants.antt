use Rattle.std.proofs.Common.{ℕ, ◌≡◌, ◌<◌, ◌≤◌, Some, length}
use Rattle.std.specs.Prelude.{slice_get}
use Rattle.cq_theory.specs.declared.presentation.Equation.{Equation}
use Rattle.cq_eval.specs.Testing.{stage}
use Rattle.cq_eval.proofs.reaches.last_stage.Given as goal

abbrev pub invariant-loop-test : goal.invariant-loop-test
invariant-loop-test l = (n : ℕ) (e : Equation) → n < l.test-index → slice_get l.tests n ≡ Some e → stage (length l.counts) e ≤ l.last
