use Rattle.cq_program.proofs.OneEval.{told_within, unmade_answers}
use Rattle.cq_program.proofs.evals.meaning.mean_eval_made.Goals as goal

pub tell_eval-requires : goal.tell_eval-requires
tell_eval-requires c = told_within c.args.query.now c.args.instance.now.tables c.in-Err.refusal c.in-Err.ensures.refused

pub returns-in-Err-clause-refused : goal.returns-in-Err-clause-refused
returns-in-Err-clause-refused c = λ depth.
    unmade_answers depth c.args.place c.args.name c.args.query.now c.args.instance.now.tables c.in-Err.refusal c.tell_eval.result c.in-Err.ensures.refused
    c.tell_eval.ensures.many c.tell_eval.ensures.large c.tell_eval.ensures.memory
