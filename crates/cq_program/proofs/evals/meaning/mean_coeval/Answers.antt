use Rattle.std.proofs.Common.{IfOk, IfErr, sym, ap, subst, ◌∙◌}
use Rattle.cq_query.specs.Coeval.{coeval_of}
use Rattle.cq_query.specs.QueryData.{QueryData}
use Rattle.cq_program.specs.Posed.{a_made}
use Rattle.cq_environment.specs.Environment.{meant}
use Rattle.cq_program.specs.Judging.{TellsUnmade}
use Rattle.cq_program.specs.Program.{Stands}
use Rattle.cq_program.proofs.evals.meaning.mean_coeval.Goals as goal

pub mean_coeval_made-requires-clause-over : goal.mean_coeval_made-requires-clause-over
mean_coeval_made-requires-clause-over c = c.requires.over ∙ ap (λ (Q : QueryData). Q.target) (sym (c.deref.ensures ∙ c.in_ok-made.ensures))

pub returns-clause-stands : goal.returns-clause-stands
returns-clause-stands c =
    subst (λ (Q : QueryData). IfOk c.mean_coeval_made.result (λ meaning. Stands (a_made c.args.name Q.source (coeval_of Q c.args.instance.now.tables)) (meant meaning))) (c.deref.ensures ∙ c.in_ok-made.ensures)
    c.mean_coeval_made.ensures.stands

pub returns-clause-refused : goal.returns-clause-refused
returns-clause-refused c =
    subst (λ (Q : QueryData). IfErr c.mean_coeval_made.result (TellsUnmade c.args.depth c.args.place (a_made c.args.name Q.source (coeval_of Q c.args.instance.now.tables)))) (c.deref.ensures ∙ c.in_ok-made.ensures)
    c.mean_coeval_made.ensures.refused
