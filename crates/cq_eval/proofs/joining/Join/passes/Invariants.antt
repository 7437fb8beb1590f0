use Rattle.cq_eval.proofs.Staged.{Met}
use Rattle.cq_eval.proofs.joining.Join.passes.Given as goal

abbrev pub invariant-loop-place : goal.invariant-loop-place
invariant-loop-place l = Met l.self.instance.now.tables l.self.tests.now l.choice l.places l.place-index
