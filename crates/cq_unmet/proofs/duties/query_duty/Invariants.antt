use Rattle.std.proofs.Common.{◌≡◌, ◌≤◌, length}
use Rattle.cq_query.specs.Duties.{duties_below}
use Rattle.cq_unmet.proofs.duties.query_duty.Given as goal

abbrev pub invariant-loop-entity : goal.invariant-loop-entity
invariant-loop-entity l = (l.before ≡ length (duties_below l.query l.entity)) × (l.before ≤ l.number)
