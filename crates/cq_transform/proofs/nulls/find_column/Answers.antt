use Rattle.std.proofs.Common.{arith}
use Rattle.std.proofs.lemmas.Option.{slice_get_within}
use Rattle.cq_transform.proofs.Spelled.{keeps-then}
use Rattle.cq_transform.proofs.Steps.{column_more, cell_of_column}
use Rattle.cq_transform.proofs.nulls.find_column.Goals as goal

pub loop-row-preserved : goal.loop-row-preserved
loop-row-preserved c = record {
  keeps = keeps-then c.args.found.now.items c.loop-row.found.items c.find_cell.new.found.items c.loop-row.invariant.keeps c.in_ok-find_cell.ensures.keeps;
  spelled = λ i B initial of all.
      c.in_ok-find_cell.ensures.spelled i B c.loop-row.row initial
      (cell_of_column i c.args.target.now B c.args.attribute c.args.images.now c.args.column.now c.loop-row.row c.number_at-image.result c.index-column-row.result
      c.loop-row-test.true c.index-column-row.is c.number_at-image.ensures of)
      (c.loop-row.invariant.spelled i B initial of all);
  closed = column_more c.args.column.now c.loop-row.row c.index-column-row.result c.loop-row.found.items c.find_cell.new.found.items c.loop-row-test.true c.index-column-row.is
      c.in_ok-find_cell.ensures.keeps c.in_ok-find_cell.ensures.closed c.loop-row.invariant.closed;
}

pub returns-clause-closed : goal.returns-clause-closed
returns-clause-closed c = λ n v at. c.loop-row.invariant.closed n (omega (arith, c.loop-row-test.false, slice_get_within c.args.column.now n v at)) v at
