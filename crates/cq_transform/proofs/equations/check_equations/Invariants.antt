use Rattle.std.proofs.Common.{map}
use Rattle.cq_instance.specs.Standing.{meaning}
use Rattle.cq_transform.specs.Refusals.{AreEqualBefore}
use Rattle.cq_transform.proofs.equations.check_equations.Given as goal

abbrev pub invariant-loop-place : goal.invariant-loop-place
invariant-loop-place l = AreEqualBefore l.target.tables (map meaning l.standings) l.equations l.place
