use Rattle.std.proofs.Common.{◌≡◌, ap, ◌∙◌}
use Rattle.cq_adjoint.specs.Moves.{to_delta_images}
use Rattle.cq_adjoint.specs.Units.{unit_images}
use Rattle.cq_adjoint.proofs.IdentityMoves.{unit_of_identity}
use Rattle.cq_instance.specs.declared.transform.Transform.{Transform}
use Rattle.cq_environment.specs.Routes.{by_sigma}
use Rattle.cq_program.specs.MovedImages.{AreAround}
use Rattle.cq_program.proofs.MovedAsAsked.{delta_of, has_images, sigma_of, tells_long}
use Rattle.cq_program.proofs.movements.mapped.make_unit.Goals as goal

pub to_delta-requires-clause-initial : goal.to_delta-requires-clause-initial
to_delta-requires-clause-initial c = c.requires.start_whole.model

pub to_delta-requires-clause-pushed : goal.to_delta-requires-clause-pushed
to_delta-requires-clause-pushed c = sigma_of c.args.mapping.now c.args.start.now c.args.there.now c.requires.around.0 c.requires.whole

pub to_delta-requires-clause-pulled : goal.to_delta-requires-clause-pulled
to_delta-requires-clause-pulled c = delta_of c.args.mapping.now c.args.there.now c.args.finish.now c.requires.around.1

pub to_delta-requires-clause-goes : goal.to_delta-requires-clause-goes
to_delta-requires-clause-goes c = c.in-Ok.ensures.goes

pub returns-clause-made : goal.returns-clause-made
returns-clause-made c =
    let F = c.args.mapping.now in
    let start = c.args.start.now in
    let finish = c.args.finish.now in
    let there = c.args.there.now in
    let are : to_delta_images F c.in-Ok.itself start there there finish ≡ unit_images start there finish =
    ap (λ (t : Transform). to_delta_images F t start there there finish) c.in-Ok.ensures.is ∙ unit_of_identity F start there finish (sigma_of F start there c.requires.around.0 c.requires.whole) in
    has_images (AreAround (by_sigma F) start finish there) start finish (to_delta_images F c.in-Ok.itself start there there finish) are c.to_delta.result c.to_delta.ensures.images c.to_delta.ensures.fits c.to_delta.ensures.goes

pub returns-clause-refused : goal.returns-clause-refused
returns-clause-refused c =
    let F = c.args.mapping.now in
    let start = c.args.start.now in
    let finish = c.args.finish.now in
    let there = c.args.there.now in
    let are : to_delta_images F c.in-Ok.itself start there there finish ≡ unit_images start there finish =
    ap (λ (t : Transform). to_delta_images F t start there there finish) c.in-Ok.ensures.is ∙ unit_of_identity F start there finish (sigma_of F start there c.requires.around.0 c.requires.whole) in
    tells_long (AreAround (by_sigma F) start finish there) start finish (to_delta_images F c.in-Ok.itself start there there finish) are c.to_delta.result c.to_delta.ensures.refused
