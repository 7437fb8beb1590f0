use Rattle.std.proofs.Common.{refl}
use Rattle.cq_adjoint.specs.QueryMoves.{coeval_images}
use Rattle.cq_environment.specs.Routes.{by_coeval}
use Rattle.cq_program.specs.Carrying.{carried_as}
use Rattle.cq_program.specs.MovedImages.{AreMoved}
use Rattle.cq_program.proofs.MovedAsAsked.{coeval_is, has_own_images, tells_own}
use Rattle.cq_program.proofs.movements.queried.move_by_coeval_made.Goals as goal

pub coeval_map-requires-clause-goes : goal.coeval_map-requires-clause-goes
coeval_map-requires-clause-goes c = c.requires.goes

pub coeval_map-requires-clause-copied : goal.coeval_map-requires-clause-copied
coeval_map-requires-clause-copied c = coeval_is c.args.query.now c.args.carrying.now.source.now c.args.carrying.now.start.now c.requires.start_moved c.requires.start

pub coeval_map-requires-clause-copied_there : goal.coeval_map-requires-clause-copied_there
coeval_map-requires-clause-copied_there c = coeval_is c.args.query.now c.args.carrying.now.target.now c.args.carrying.now.finish.now c.requires.finish_moved c.requires.finish

pub returns-clause-made : goal.returns-clause-made
returns-clause-made c =
    let k = carried_as c.args.carrying.now in
    has_own_images (AreMoved (by_coeval c.args.query.now) k) k.start k.finish (coeval_images c.args.query.now k.moved k.source k.target) refl c.coeval_map.result c.coeval_map.ensures.images
    c.coeval_map.ensures.fits c.coeval_map.ensures.goes

pub returns-clause-refused : goal.returns-clause-refused
returns-clause-refused c =
    let k = carried_as c.args.carrying.now in
    tells_own (AreMoved (by_coeval c.args.query.now) k) k.start k.finish (coeval_images c.args.query.now k.moved k.source k.target) refl c.coeval_map.result c.coeval_map.ensures.refused
