use Rattle.cq_check.proofs.Listed.{AddsGiven}
use Rattle.cq_check.proofs.equations.push_given.Given as goal

abbrev pub invariant-loop-equation : goal.invariant-loop-equation
invariant-loop-equation l = AddsGiven l.schema l.presentation l.tables l.entries l.initial.list l.list l.equation-index
