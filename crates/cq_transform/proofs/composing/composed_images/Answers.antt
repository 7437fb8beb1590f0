use Rattle.std.proofs.Common.{refl}
use Rattle.cq_theory.proofs.PartLoops.{map_more, map_whole}
use Rattle.cq_transform.specs.Composing.{put_image, is_long}
use Rattle.cq_transform.proofs.Loops.{any_none, any_passed, any_refused}
use Rattle.cq_transform.proofs.composing.composed_images.Goals as goal

pub loop-image-preserved : goal.loop-image-preserved
loop-image-preserved c = record {
  made = map_more (put_image c.args.second.now) c.args.first.now c.loop-image.image-index c.image-item.result c.loop-image.made.items _ _ c.loop-image-test.true c.image-item.is
      c.loop-image.invariant.made refl c.in_default.ensures.made;
  rest = any_passed (put_image c.args.second.now) is_long c.args.first.now c.loop-image.image-index c.image-item.result _ c.loop-image-test.true c.image-item.is
      c.loop-image.invariant.rest c.in_default.ensures.fits;
}

pub returns-in-Err-clause-refused : goal.returns-in-Err-clause-refused
returns-in-Err-clause-refused c =
    any_refused (put_image c.args.second.now) is_long c.args.first.now c.loop-image.image-index c.image-item.result _ c.loop-image-test.true c.image-item.is c.loop-image.invariant.rest _
    c.in-Err.ensures.refused

pub returns-clause-accepted : goal.returns-clause-accepted
returns-clause-accepted c = any_none (put_image c.args.second.now) is_long c.args.first.now c.loop-image.image-index _ c.loop-image-test.false c.loop-image.invariant.rest

pub returns-clause-made : goal.returns-clause-made
returns-clause-made c =
    map_whole (put_image c.args.second.now) c.args.first.now c.loop-image.image-index c.loop-image.made.items c.loop-image-test.false c.loop-image.invariant.made
