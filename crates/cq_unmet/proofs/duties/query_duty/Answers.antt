use Rattle.std.proofs.Common.{◌≡◌, ap, refl, length, arith}
use Rattle.cq_check.proofs.QueryDuties.{duties_counted}
use Rattle.cq_query.specs.Duties.{duties}
use Rattle.cq_unmet.proofs.duties.query_duty.Goals as goal

pub loop-entity-init : goal.loop-entity-init
loop-entity-init c = (refl, omega arith)

pub loop-entity-preserved : goal.loop-entity-preserved
loop-entity-preserved c =
    let more = duties_counted c.args.query.now c.loop-entity.entity in
    let size : length c.in_ok-duties.duties.items ≡ length (duties c.args.query.now c.loop-entity.entity) = ap length c.in_ok-duties.ensures in (
      omega (arith, c.loop-entity.invariant.0, more, size, c.len-count.ensures),
      omega (arith, c.loop-entity.invariant.1, c.if-place-count.false, c.len-count.ensures),
    )
