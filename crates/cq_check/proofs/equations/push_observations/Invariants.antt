use Rattle.cq_check.proofs.Listed.{AddsAtRows}
use Rattle.cq_check.proofs.equations.push_observations.Given as goal

abbrev pub invariant-loop-row : goal.invariant-loop-row
invariant-loop-row l = AddsAtRows l.schema l.tables l.initial.list l.list l.row
