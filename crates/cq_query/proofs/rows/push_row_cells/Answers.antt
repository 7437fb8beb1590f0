use Rattle.cq_query.specs.Coeval.{cell_equation}
use Rattle.cq_query.proofs.Copying.{mapped_more}
use Rattle.cq_query.proofs.rows.push_row_cells.Goals as goal

pub loop-attribute-preserved : goal.loop-attribute-preserved
loop-attribute-preserved c =
    mapped_more (cell_equation c.args.layout.now.query.now c.args.layout.now.sheet.now c.args.layout.now.nulls c.args.row.now.entity c.args.row.now.number) c.args.made.now.items c.loop-attribute.made.items _ c.attributes_from-attribute-items.result.now _
    c.loop-attribute.attribute-index 0 c.attributes_from-attribute-items.ensures c.loop-attribute-test.true c.loop-attribute.invariant c.in_ok-push_cell.ensures
