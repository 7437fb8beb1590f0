use Rattle.std.proofs.Common.{map, refl}
use Rattle.cq_adjoint.specs.Copies.{AreAllAnswers}
use Rattle.cq_adjoint.specs.QueryMoves.{eval_images}
use Rattle.cq_environment.specs.Routes.{by_eval}
use Rattle.cq_program.specs.Carrying.{carried_as}
use Rattle.cq_program.specs.MovedImages.{Answered, AreMoved}
use Rattle.cq_program.proofs.MovedAsAsked.{has_own_images}
use Rattle.cq_program.proofs.movements.queried.move_by_eval_made.Goals as goal

pub returns-clause-made : goal.returns-clause-made
returns-clause-made c =
    let Q = c.args.query.now in
    let k = carried_as c.args.carrying.now in
    let from : Answered = map (λ list. map (λ rows. rows.items) list.items) c.as_slice.result.now in
    let to : Answered = map (λ list. map (λ rows. rows.items) list.items) c.as_slice-2.result.now in
    let are : AreAllAnswers Q k.source.tables from = rw c.as_slice.ensures.value c.in-Ok.ensures in
    let are_there : AreAllAnswers Q k.target.tables to = rw c.as_slice-2.ensures.value c.in-Ok-find_all_answers.ensures in
    has_own_images (AreMoved (by_eval Q) k) k.start k.finish (eval_images Q k.moved k.source k.target k.start k.finish from to) (from, to, are, are_there, refl) c.eval_map.result
    c.eval_map.ensures.images c.eval_map.ensures.fits c.eval_map.ensures.goes
