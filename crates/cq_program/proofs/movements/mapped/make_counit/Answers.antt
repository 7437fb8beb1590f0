use Rattle.std.proofs.Common.{◌≡◌, ap, ◌∙◌}
use Rattle.cq_adjoint.specs.Moves.{from_delta_images}
use Rattle.cq_adjoint.specs.Units.{counit_images}
use Rattle.cq_adjoint.proofs.IdentityMoves.{counit_of_identity}
use Rattle.cq_instance.specs.Spelling.{null_term_of}
use Rattle.cq_instance.specs.declared.transform.Transform.{Transform}
use Rattle.cq_environment.specs.Routes.{by_delta}
use Rattle.cq_program.specs.MovedImages.{AreAround}
use Rattle.cq_program.proofs.MovedAsAsked.{delta_of, has_images, sigma_of, spelled, tells_long}
use Rattle.cq_program.proofs.movements.mapped.make_counit.Goals as goal

pub from_delta-requires-clause-initial : goal.from_delta-requires-clause-initial
from_delta-requires-clause-initial c = c.requires.whole.model

pub from_delta-requires-clause-least : goal.from_delta-requires-clause-least
from_delta-requires-clause-least c = c.requires.finish_whole.model

pub from_delta-requires-clause-pushed : goal.from_delta-requires-clause-pushed
from_delta-requires-clause-pushed c = sigma_of c.args.mapping.now c.args.there.now c.args.start.now c.requires.around.1 c.requires.start_whole

pub from_delta-requires-clause-pulled : goal.from_delta-requires-clause-pulled
from_delta-requires-clause-pulled c = delta_of c.args.mapping.now c.args.finish.now c.args.there.now c.requires.around.0

pub from_delta-requires-clause-spelled : goal.from_delta-requires-clause-spelled
from_delta-requires-clause-spelled c =
    spelled c.args.finish.now c.is_over_schema.ensures c.is_instance.ensures c.requires.finish_whole.built c.null_terms_spell.ensures.given c.null_terms_spell.ensures.listed

pub from_delta-requires-clause-goes : goal.from_delta-requires-clause-goes
from_delta-requires-clause-goes c = c.in-Ok.ensures.goes

pub returns-clause-made : goal.returns-clause-made
returns-clause-made c =
    let F = c.args.mapping.now in
    let start = c.args.start.now in
    let finish = c.args.finish.now in
    let there = c.args.there.now in
    let are : from_delta_images F c.in-Ok.itself (null_term_of finish) there finish there ≡ counit_images F (null_term_of finish) finish there =
    ap (λ (t : Transform). from_delta_images F t (null_term_of finish) there finish there) c.in-Ok.ensures.is ∙ counit_of_identity F (null_term_of finish) finish there c.requires.whole.model.0.holds in
    has_images (AreAround (by_delta F) start finish there) start finish (from_delta_images F c.in-Ok.itself (null_term_of finish) there finish there) are c.from_delta.result c.from_delta.ensures.images
    c.from_delta.ensures.fits c.from_delta.ensures.goes

pub returns-clause-refused : goal.returns-clause-refused
returns-clause-refused c =
    let F = c.args.mapping.now in
    let start = c.args.start.now in
    let finish = c.args.finish.now in
    let there = c.args.there.now in
    let are : from_delta_images F c.in-Ok.itself (null_term_of finish) there finish there ≡ counit_images F (null_term_of finish) finish there =
    ap (λ (t : Transform). from_delta_images F t (null_term_of finish) there finish there) c.in-Ok.ensures.is ∙ counit_of_identity F (null_term_of finish) finish there c.requires.whole.model.0.holds in
    tells_long (AreAround (by_delta F) start finish there) start finish (from_delta_images F c.in-Ok.itself (null_term_of finish) there finish there) are c.from_delta.result c.from_delta.ensures.refused
