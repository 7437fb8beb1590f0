use Rattle.cq_growth.specs.Limits.{IsSoFar}
use Rattle.cq_growth.proofs.limits.last_within.Given as goal

abbrev pub invariant-loop-stage : goal.invariant-loop-stage
invariant-loop-stage l = IsSoFar l.schema l.presentation l.stage l.last
