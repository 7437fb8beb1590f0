use Rattle.std.proofs.Common.{refl, arith}
use Rattle.std.proofs.lemmas.Result.{err_from_is_err_and}
use Rattle.cq_theory.proofs.PartLoops.{map_more, map_whole, part_passed, part_refused, parts_passed}
use Rattle.cq_transform.specs.Images.{image_fault}
use Rattle.cq_transform.proofs.images.add_images.Goals as goal

pub returns-in_err-add_image-clause-refused : goal.returns-in_err-add_image-clause-refused
returns-in_err-add_image-clause-refused c =
    let p = err_from_is_err_and c.from_residual.result c.from_residual.ensures.1 in
    rw (p.1, p.2)
    (part_refused (λ part. part.0) (image_fault c.args.schema.now c.args.from.now c.args.to.now) c.args.parts.now c.loop-part.part-index c.loop-part.table c.loop-part.number _ c.part-item.result _
    c.loop-part-test.true c.part-item.is c.loop-part.invariant.2 c.in_err-add_image.ensures.refused)

pub loop-part-preserved : goal.loop-part-preserved
loop-part-preserved c =
    let parts = c.args.parts.now in
    let i = c.loop-part.part-index in
    let x = c.part-item.result in
    let one = c.in_ok-add_image.ensures.ok in (
      omega (arith, c.loop-part.invariant.0),
      map_more (λ part. part.0) parts i x c.loop-part.table _ x.0 c.loop-part-test.true c.part-item.is c.loop-part.invariant.1 refl one.1,
      part_passed (λ part. part.0) (image_fault c.args.schema.now c.args.from.now c.args.to.now) parts i c.loop-part.table c.loop-part.number _ x _ c.loop-part-test.true c.part-item.is one.1 one.0
          c.loop-part.invariant.2,
    )

pub returns-clause-accepted : goal.returns-clause-accepted
returns-clause-accepted c =
    parts_passed (λ part. part.0) (image_fault c.args.schema.now c.args.from.now c.args.to.now) c.args.parts.now c.loop-part.part-index c.loop-part.table c.loop-part.number _ c.loop-part-test.false
    c.loop-part.invariant.2

pub returns-clause-made : goal.returns-clause-made
returns-clause-made c = map_whole (λ part. part.0) c.args.parts.now c.loop-part.part-index c.loop-part.table c.loop-part-test.false c.loop-part.invariant.1
