use Rattle.std.proofs.Common.{◌≡◌, length}
use Rattle.cq_check.specs.Answers.{AreMetOf}
use Rattle.cq_check.proofs.queries.check_query.Given as goal
use Rattle.cq_query.specs.Duties.{duties_below}

abbrev pub invariant-loop-entity : goal.invariant-loop-entity
invariant-loop-entity l = (l.number ≡ length (duties_below l.query l.entity)) × AreMetOf l.query l.number
