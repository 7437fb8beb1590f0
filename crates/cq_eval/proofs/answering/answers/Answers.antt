use Rattle.std.proofs.Common.{sym, subst, ◌∙◌}
use Rattle.cq_query.specs.Answers.{AreAnswers}
use Rattle.cq_eval.proofs.Answered.{answers_are}
use Rattle.cq_eval.proofs.Told.{tells_many}
use Rattle.cq_eval.proofs.answering.answers.Goals as goal

pub returns-in-Ok-unwrapped-clause-answers : goal.returns-in-Ok-unwrapped-clause-answers
returns-in-Ok-unwrapped-clause-answers c =
    subst (AreAnswers c.args.query.now c.args.instance.now.tables c.args.entity) (sym (c.in-Ok-unwrapped.ensures.lists ∙ c.in-Ok.ensures.answers)) (answers_are c.args.query.now c.args.instance.now.tables c.args.entity)

pub returns-in-Err-clause-refused : goal.returns-in-Err-clause-refused
returns-in-Err-clause-refused c = tells_many c.args.query.now c.args.instance.now.tables c.args.entity c.in-Err.refusal c.in-Err.ensures.refused
