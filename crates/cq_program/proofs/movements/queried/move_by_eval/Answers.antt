use Rattle.std.proofs.Common.{IfOk, IfErr, sym, subst, ◌∙◌}
use Rattle.cq_query.specs.QueryData.{QueryData}
use Rattle.cq_program.specs.Posing.{IsMovingAlong}
use Rattle.cq_environment.specs.Routes.{by_eval}
use Rattle.cq_program.specs.Carrying.{carried_as}
use Rattle.cq_program.specs.MovedImages.{AreMoved, HasImages, TellsLong}
use Rattle.cq_program.proofs.movements.queried.move_by_eval.Goals as goal

pub move_by_eval_made-requires : goal.move_by_eval_made-requires
move_by_eval_made-requires c = subst (λ (Q : QueryData). IsMovingAlong (by_eval Q) (carried_as c.args.carrying.now)) (sym (c.deref.ensures ∙ c.in-Ok.ensures)) c.requires

pub returns-clause-made : goal.returns-clause-made
returns-clause-made c =
    subst (λ (Q : QueryData). IfOk c.move_by_eval_made.result (HasImages (AreMoved (by_eval Q) (carried_as c.args.carrying.now)) c.args.carrying.now.start.now c.args.carrying.now.finish.now)) (c.deref.ensures ∙ c.in-Ok.ensures)
    c.move_by_eval_made.ensures.made

pub returns-clause-refused : goal.returns-clause-refused
returns-clause-refused c =
    subst (λ (Q : QueryData). IfErr c.move_by_eval_made.result (TellsLong (AreMoved (by_eval Q) (carried_as c.args.carrying.now)))) (c.deref.ensures ∙ c.in-Ok.ensures) c.move_by_eval_made.ensures.refused
