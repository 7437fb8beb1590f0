use Rattle.cq_transform.proofs.Spelled.{put_keeps, put_closed, put_cell}
use Rattle.cq_transform.proofs.nulls.find_cell.Goals as goal

pub returns-in_ok-cell_at-clause-keeps : goal.returns-in_ok-cell_at-clause-keeps
returns-in_ok-cell_at-clause-keeps c =
    put_keeps c.args.found.now.items c.as_slice.result.now c.put.new.found.items c.args.cell.now c.in_ok-cell_at.field-0 c.in-Some.label
    c.as_slice.ensures.value c.in-Some.ensures.open c.put.ensures

pub returns-in_ok-cell_at-clause-spelled : goal.returns-in_ok-cell_at-clause-spelled
returns-in_ok-cell_at-clause-spelled c =
    λ i B row initial is all.
    put_cell c.args.found.now.items c.as_slice.result.now c.put.new.found.items c.args.cell.now c.in_ok-cell_at.field-0 c.in-Some.label
    c.as_slice.ensures.value c.in-Some.ensures.open c.put.ensures i c.args.target.now B c.args.attribute row c.args.image c.in_ok-cell_at.ensures initial is all

pub returns-in_ok-cell_at-clause-closed : goal.returns-in_ok-cell_at-clause-closed
returns-in_ok-cell_at-clause-closed c =
    put_closed c.args.found.now.items c.as_slice.result.now c.put.new.found.items c.args.cell.now c.in_ok-cell_at.field-0 c.in-Some.label
    c.as_slice.ensures.value c.in-Some.ensures.open c.put.ensures
