use Rattle.cq_query.proofs.Once.{one_answers, answers_once, one_place}
use Rattle.cq_query.proofs.laws.eval.answers_stand_once.Goals as goal

pub returns : goal.returns
returns c = record {
  one_list = one_answers;
  one_place = λ Q M entity answers are p q rows at at'. one_place answers (answers_once Q M entity answers are) p q rows at at';
}
