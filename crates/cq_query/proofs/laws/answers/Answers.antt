use Rattle.cq_query.proofs.Answering.{among_answers}
use Rattle.cq_query.proofs.laws.answers.Goals as goal

pub returns : goal.returns
returns c = among_answers
