use Rattle.cq_query.specs.Coeval.{entity_equations}
use Rattle.cq_query.proofs.Copying.{pushed_below}
use Rattle.cq_query.proofs.rows.push_rows.Goals as goal

pub loop-entity-preserved : goal.loop-entity-preserved
loop-entity-preserved c =
    pushed_below (entity_equations c.args.layout.now.query.now c.args.layout.now.sheet.now c.args.layout.now.nulls) c.args.made.now.items c.loop-entity.made.items _ c.loop-entity.entity c.loop-entity.invariant c.in_ok-push_entity_rows.ensures
