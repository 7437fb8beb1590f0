use Rattle.std.proofs.Common.{refl}
use Rattle.cq_adjoint.specs.Moves.{sigma_images}
use Rattle.cq_environment.specs.Routes.{by_sigma}
use Rattle.cq_program.specs.Carrying.{carried_as}
use Rattle.cq_program.specs.MovedImages.{AreMoved}
use Rattle.cq_program.proofs.MovedAsAsked.{has_images, sigma_of, tells_long}
use Rattle.cq_program.proofs.movements.mapped.move_by_sigma.Goals as goal

pub sigma_map-requires-clause-preserves : goal.sigma_map-requires-clause-preserves
sigma_map-requires-clause-preserves c = c.requires.sound

pub sigma_map-requires-clause-initial : goal.sigma_map-requires-clause-initial
sigma_map-requires-clause-initial c = c.requires.target.model.0

pub sigma_map-requires-clause-first : goal.sigma_map-requires-clause-first
sigma_map-requires-clause-first c = sigma_of c.args.mapping.now c.args.carrying.now.source.now c.args.carrying.now.start.now c.requires.start_moved c.requires.start

pub sigma_map-requires-clause-second : goal.sigma_map-requires-clause-second
sigma_map-requires-clause-second c = sigma_of c.args.mapping.now c.args.carrying.now.target.now c.args.carrying.now.finish.now c.requires.finish_moved c.requires.finish

pub sigma_map-requires-clause-goes : goal.sigma_map-requires-clause-goes
sigma_map-requires-clause-goes c = c.requires.goes

pub returns-clause-made : goal.returns-clause-made
returns-clause-made c =
    let k = carried_as c.args.carrying.now in
    has_images (AreMoved (by_sigma c.args.mapping.now) k) k.start k.finish (sigma_images c.args.mapping.now k.moved) refl c.sigma_map.result c.sigma_map.ensures.images c.sigma_map.ensures.fits c.sigma_map.ensures.goes

pub returns-clause-refused : goal.returns-clause-refused
returns-clause-refused c =
    let k = carried_as c.args.carrying.now in
    tells_long (AreMoved (by_sigma c.args.mapping.now) k) k.start k.finish (sigma_images c.args.mapping.now k.moved) refl c.sigma_map.result c.sigma_map.ensures.refused
