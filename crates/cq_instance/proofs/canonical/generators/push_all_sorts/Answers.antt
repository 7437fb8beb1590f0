use Rattle.cq_instance.specs.Numbers.{row_sorts}
use Rattle.cq_instance.proofs.Pushed.{pushed_below}
use Rattle.cq_instance.proofs.canonical.generators.push_all_sorts.Goals as goal

pub loop-entity-preserved : goal.loop-entity-preserved
loop-entity-preserved c = pushed_below (row_sorts c.args.counts.now) c.args.made.now.items c.loop-entity.made.items _ c.loop-entity.entity c.loop-entity.invariant c.in_ok-push_entity_sorts.ensures
