use Rattle.cq_csv.specs.Files.{cell}
use Rattle.cq_csv.proofs.Adds.{adds_more, adds_nothing}
use Rattle.cq_csv.proofs.rows.push_cells.Goals as goal

pub loop-attribute-init : goal.loop-attribute-init
loop-attribute-init c = adds_nothing c.args.fields.now c.requires.whole

pub loop-attribute-preserved : goal.loop-attribute-preserved
loop-attribute-preserved c =
    adds_more (cell c.args.instance.now c.args.row) c.args.attributes.now c.loop-attribute.attribute-index 0 c.args.fields.now c.loop-attribute.fields c.push_cell.new.fields
    c.loop-attribute-test.true c.loop-attribute.invariant c.in_ok-push_cell.ensures
