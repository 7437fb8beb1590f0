use Rattle.cq_theory.proofs.PartLoops.{map_more, map_whole}
use Rattle.cq_transform.specs.Sent.{value_sent}
use Rattle.cq_transform.proofs.composing.composed_nulls.Goals as goal

pub loop-value-preserved : goal.loop-value-preserved
loop-value-preserved c =
    map_more (value_sent c.args.last.now.tables.algebra.entries c.args.second.now.nulls) c.args.values.now c.loop-value.value-index c.value-item.result c.loop-value.made.items _ _
    c.loop-value-test.true c.value-item.is c.loop-value.invariant c.in_ok-value_then.ensures c.in_ok-push.ensures.items

pub returns : goal.returns
returns c =
    map_whole (value_sent c.args.last.now.tables.algebra.entries c.args.second.now.nulls) c.args.values.now c.loop-value.value-index c.loop-value.made.items c.loop-value-test.false
    c.loop-value.invariant
