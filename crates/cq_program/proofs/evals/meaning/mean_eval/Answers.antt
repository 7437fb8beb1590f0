use Rattle.std.proofs.Common.{ℕ, IfOk, IfErr, sym, ap, subst, ◌≡◌, ◌∙◌}
use Rattle.cq_query.specs.QueryData.{QueryData}
use Rattle.cq_query.specs.Duties.{Sound}
use Rattle.cq_program.specs.Posed.{an_eval}
use Rattle.cq_environment.specs.Environment.{meant}
use Rattle.cq_program.specs.Judging.{TellsUnmade}
use Rattle.cq_program.specs.Program.{Stands}
use Rattle.cq_program.proofs.evals.meaning.mean_eval.Goals as goal

pub mean_eval_made-requires-clause-sound : goal.mean_eval_made-requires-clause-sound
mean_eval_made-requires-clause-sound c = subst (λ (Q : QueryData). Sound Q) (sym (c.deref.ensures ∙ c.in_ok-made.ensures)) c.requires.sound

pub mean_eval_made-requires-clause-over : goal.mean_eval_made-requires-clause-over
mean_eval_made-requires-clause-over c = c.requires.over ∙ ap (λ (Q : QueryData). Q.source) (sym (c.deref.ensures ∙ c.in_ok-made.ensures))

pub returns-clause-stands : goal.returns-clause-stands
returns-clause-stands c =
    subst (λ (Q : QueryData). IfOk c.mean_eval_made.result (λ meaning. Stands (an_eval c.args.name Q c.args.instance.now.tables) (meant meaning))) (c.deref.ensures ∙ c.in_ok-made.ensures)
    c.mean_eval_made.ensures.stands

pub returns-clause-refused : goal.returns-clause-refused
returns-clause-refused c = λ depth.
    subst (λ (Q : QueryData). IfErr c.mean_eval_made.result (TellsUnmade depth c.args.place (an_eval c.args.name Q c.args.instance.now.tables))) (c.deref.ensures ∙ c.in_ok-made.ensures)
    (c.mean_eval_made.ensures.refused depth)
