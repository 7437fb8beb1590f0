use Rattle.std.proofs.Common.{map}
use Rattle.cq_check.proofs.Depths.{AreOpenAt}
use Rattle.cq_check.proofs.deciding.first_unmet.Given as goal

abbrev pub invariant-loop-stage : goal.invariant-loop-stage
invariant-loop-stage l = AreOpenAt l.prepared.schema.now l.presentation (map (λ e. e.now) l.equations) l.known.items l.first l.stage
