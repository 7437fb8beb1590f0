use Rattle.cq_text.specs.Spelling.{cell_equation_line}
use Rattle.cq_text.proofs.Belows.{flat_map-take_more}
use Rattle.cq_text.proofs.equations.push_cells.Goals as goal

pub loop-attribute-preserved : goal.loop-attribute-preserved
loop-attribute-preserved c =
    flat_map-take_more (cell_equation_line c.args.instance.now.schema c.args.instance.now.tables c.args.generator c.args.row) c.args.text.now.items c.loop-attribute.text.items
    c.push_cell.new.text.items c.args.attributes.now c.loop-attribute.attribute-index 0 c.loop-attribute-test.true c.loop-attribute.invariant c.in_ok-push_cell.ensures
