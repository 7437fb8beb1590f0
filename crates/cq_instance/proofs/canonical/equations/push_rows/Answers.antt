use Rattle.cq_instance.specs.Numbers.{entity_made}
use Rattle.cq_instance.proofs.Pushed.{pushed_below}
use Rattle.cq_instance.proofs.canonical.equations.push_rows.Goals as goal

pub loop-entity-preserved : goal.loop-entity-preserved
loop-entity-preserved c = pushed_below (entity_made c.args.sheet.now c.args.numbers.now) c.args.made.now.items c.loop-entity.made.items _ c.loop-entity.entity c.loop-entity.invariant c.in_ok-push_entity.ensures
