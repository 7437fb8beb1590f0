use Rattle.cq_rows.proofs.Filling.{added_step}
use Rattle.cq_rows.proofs.fill.fill_cell.Goals as goal

pub set_cell-requires-clause-key : goal.set_cell-requires-clause-key
set_cell-requires-clause-key c = added_step c.args.tables.now c.add_row.new.self c.args.to c.in_ok-new.new c.in_ok-new.ensures.ok c.requires.whole c.args.row c.args.key c.requires.row c.requires.key
