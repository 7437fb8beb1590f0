use Rattle.cq_theory.proofs.PartLoops.{map_more, map_whole}
use Rattle.cq_transform.specs.Nulls.{plain_image}
use Rattle.cq_transform.proofs.found.plain_images.Goals as goal

pub loop-value-preserved : goal.loop-value-preserved
loop-value-preserved c =
    map_more (plain_image c.args.found.now) c.args.values.now c.loop-value.value-index c.value-item.result c.loop-value.images.items _ _ c.loop-value-test.true c.value-item.is
    c.loop-value.invariant c.in_ok-plain_image.ensures c.in_ok-push.ensures.items

pub returns : goal.returns
returns c = map_whole (plain_image c.args.found.now) c.args.values.now c.loop-value.value-index c.loop-value.images.items c.loop-value-test.false c.loop-value.invariant
