use Rattle.std.proofs.Common.{◌≡◌, ◌+◌, length}
use Rattle.cq_check.specs.Answers.{AreMetOf}
use Rattle.cq_check.proofs.queries.check_entity.Given as goal
use Rattle.cq_query.specs.Duties.{duties_below}

abbrev pub invariant-loop-duty : goal.invariant-loop-duty
invariant-loop-duty l = (l.number ≡ length (duties_below l.query l.entity) + l.duty-index) × AreMetOf l.query l.number
