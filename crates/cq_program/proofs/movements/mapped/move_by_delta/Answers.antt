use Rattle.std.proofs.Common.{refl}
use Rattle.cq_adjoint.specs.Moves.{delta_images}
use Rattle.cq_environment.specs.Routes.{by_delta}
use Rattle.cq_program.specs.Carrying.{carried_as}
use Rattle.cq_program.specs.MovedImages.{AreMoved}
use Rattle.cq_program.proofs.MovedAsAsked.{delta_of, has_images, tells_long}
use Rattle.cq_program.proofs.movements.mapped.move_by_delta.Goals as goal

pub delta_map-requires-clause-first : goal.delta_map-requires-clause-first
delta_map-requires-clause-first c = delta_of c.args.mapping.now c.args.carrying.now.source.now c.args.carrying.now.start.now c.requires.start_moved

pub delta_map-requires-clause-second : goal.delta_map-requires-clause-second
delta_map-requires-clause-second c = delta_of c.args.mapping.now c.args.carrying.now.target.now c.args.carrying.now.finish.now c.requires.finish_moved

pub delta_map-requires-clause-goes : goal.delta_map-requires-clause-goes
delta_map-requires-clause-goes c = c.requires.goes

pub returns-clause-made : goal.returns-clause-made
returns-clause-made c =
    let k = carried_as c.args.carrying.now in
    has_images (AreMoved (by_delta c.args.mapping.now) k) k.start k.finish (delta_images c.args.mapping.now k.moved k.source k.target k.start k.finish) refl c.delta_map.result c.delta_map.ensures.images
    c.delta_map.ensures.fits c.delta_map.ensures.goes

pub returns-clause-refused : goal.returns-clause-refused
returns-clause-refused c =
    let k = carried_as c.args.carrying.now in
    tells_long (AreMoved (by_delta c.args.mapping.now) k) k.start k.finish (delta_images c.args.mapping.now k.moved k.source k.target k.start k.finish) refl c.delta_map.result c.delta_map.ensures.refused
