use Rattle.std.proofs.Common.{◌≡◌, ◌∙◌, length, arith}
use Rattle.cq_cells.proofs.Filing.{count_all, count_fits, count_more}
use Rattle.cq_cells.proofs.index.find_total.Goals as goal

pub returns-then-count-total : goal.returns-then-count-total
returns-then-count-total c =
    omega (arith, c.if-count-total.true, count_fits c.args.indexed.now c.loop-one.one-index c.one-item.result c.loop-one-test.true c.one-item.is, c.loop-one.invariant.0, c.loop-one.invariant.1)

pub loop-one-preserved : goal.loop-one-preserved
loop-one-preserved c =
    let more = count_more c.args.indexed.now c.loop-one.one-index c.one-item.result c.loop-one-test.true c.one-item.is in
    (omega (arith, more, c.loop-one.invariant.0), omega (arith, c.if-count-total.false, c.loop-one.invariant.1))

pub returns : goal.returns
returns c =
    let all : c.loop-one.one-index ≡ length c.args.indexed.now = omega (arith, c.loop-one-test.false, c.loop-one.auto.one-index-end) in
    (c.loop-one.invariant.0 ∙ count_all c.args.indexed.now c.loop-one.one-index all, c.loop-one.invariant.1)
