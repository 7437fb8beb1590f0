use Rattle.cq_query.specs.Coeval.{row_equations}
use Rattle.cq_query.proofs.Copying.{pushed_below}
use Rattle.cq_query.proofs.rows.push_entity_rows.Goals as goal

pub loop-row-preserved : goal.loop-row-preserved
loop-row-preserved c =
    pushed_below (row_equations c.args.layout.now.query.now c.args.layout.now.sheet.now c.args.layout.now.nulls c.args.entity) c.args.made.now.items c.loop-row.made.items _ c.loop-row.row c.loop-row.invariant c.in_ok-push_row.ensures
