use Rattle.cq_adjoint.specs.Moves.{image_along}
use Rattle.cq_adjoint.proofs.Within.{tells_mapped}
use Rattle.cq_adjoint.proofs.along.images_along.Goals as goal

pub returns-in-Err-clause-refused : goal.returns-in-Err-clause-refused
returns-in-Err-clause-refused c =
    tells_mapped (image_along c.args.mapping.now) c.args.images.now c.loop-image.image-index c.image-item.result c.in-Ok-image_along.along c.in-Err.refusal c.loop-image-test.true c.image-item.is
    c.in-Ok-image_along.ensures c.in-Err.ensures.refused
