use Rattle.std.proofs.Common.{◌≡◌, ap, map}
use Rattle.cq_adjoint.specs.AnswerNames.{from_eval_images}
use Rattle.cq_adjoint.specs.Copies.{AreAllAnswers}
use Rattle.cq_adjoint.specs.Units.{identity_of}
use Rattle.cq_instance.specs.Spelling.{null_term_of}
use Rattle.cq_instance.specs.declared.transform.Transform.{Transform}
use Rattle.cq_environment.specs.Routes.{by_eval}
use Rattle.cq_program.specs.MovedImages.{Answered, AreAround}
use Rattle.cq_program.proofs.MovedAsAsked.{spelled, tells_own}
use Rattle.cq_program.proofs.movements.queried.make_query_counit_made.Goals as goal

pub from_eval-requires-clause-spelled : goal.from_eval-requires-clause-spelled
from_eval-requires-clause-spelled c =
    spelled c.args.finish.now c.is_over_schema.ensures c.is_instance.ensures c.requires.finish_whole.built c.null_terms_spell.ensures.given c.null_terms_spell.ensures.listed

pub returns-clause-refused : goal.returns-clause-refused
returns-clause-refused c =
    let Q = c.args.query.now in
    let start = c.args.start.now in
    let finish = c.args.finish.now in
    let there = c.args.there.now in
    let answers : Answered = map (λ list. map (λ rows. rows.items) list.items) c.as_slice.result.now in
    let are : AreAllAnswers Q finish.tables answers = rw c.as_slice.ensures.value c.in-Ok-find_all_answers.ensures in
    let same : from_eval_images Q c.in-Ok.itself there finish there answers (null_term_of finish) ≡ from_eval_images Q (identity_of there) there finish there answers (null_term_of finish) =
    ap (λ (t : Transform). from_eval_images Q t there finish there answers (null_term_of finish)) c.in-Ok.ensures.is in
    tells_own (AreAround (by_eval Q) start finish there) start finish (from_eval_images Q c.in-Ok.itself there finish there answers (null_term_of finish)) (answers, are, same) c.from_eval.result
    c.from_eval.ensures.refused
