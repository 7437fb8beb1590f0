use Rattle.std.proofs.Common.{IfOk, IfErr, sym, subst, ◌∙◌}
use Rattle.cq_query.specs.QueryData.{QueryData}
use Rattle.cq_program.specs.Posing.{IsMovingAround}
use Rattle.cq_environment.specs.Routes.{by_eval}
use Rattle.cq_program.specs.MovedImages.{AreAround, HasImages, TellsLong}
use Rattle.cq_program.proofs.movements.queried.make_query_counit.Goals as goal

pub make_query_counit_made-requires : goal.make_query_counit_made-requires
make_query_counit_made-requires c = subst (λ (Q : QueryData). IsMovingAround (by_eval Q) c.args.start.now c.args.finish.now c.args.there.now) (sym (c.deref.ensures ∙ c.in-Ok.ensures)) c.requires

pub returns-clause-made : goal.returns-clause-made
returns-clause-made c =
    subst (λ (Q : QueryData). IfOk c.make_query_counit_made.result (HasImages (AreAround (by_eval Q) c.args.start.now c.args.finish.now c.args.there.now) c.args.start.now c.args.finish.now)) (c.deref.ensures ∙ c.in-Ok.ensures)
    c.make_query_counit_made.ensures.made

pub returns-clause-refused : goal.returns-clause-refused
returns-clause-refused c =
    subst (λ (Q : QueryData). IfErr c.make_query_counit_made.result (TellsLong (AreAround (by_eval Q) c.args.start.now c.args.finish.now c.args.there.now))) (c.deref.ensures ∙ c.in-Ok.ensures) c.make_query_counit_made.ensures.refused
