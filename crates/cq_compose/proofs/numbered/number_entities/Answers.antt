use Rattle.std.proofs.Common.{arith}
use Rattle.cq_compose.proofs.Numbering.{numbered_more}
use Rattle.cq_compose.proofs.numbered.number_entities.Goals as goal

pub loop-entity-preserved : goal.loop-entity-preserved
loop-entity-preserved c = (
  omega (arith, c.loop-entity.invariant.0),
  numbered_more c.args.entities.now c.loop-entity.entity-index c.loop-entity.number _ c.loop-entity.made.items _ c.loop-entity-test.true c.loop-entity.invariant.0 c.loop-entity.invariant.1 c.in_ok-push_variable.ensures,
)
