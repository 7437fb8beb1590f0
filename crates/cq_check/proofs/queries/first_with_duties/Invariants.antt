use Rattle.std.proofs.Common.{◌≡◌, length}
use Rattle.cq_query.specs.Duties.{duties_below}
use Rattle.cq_check.proofs.queries.first_with_duties.Given as goal

abbrev pub invariant-loop-entity : goal.invariant-loop-entity
invariant-loop-entity l = length (duties_below l.query l.entity) ≡ 0
