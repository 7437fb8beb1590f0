use Rattle.cq_query.proofs.Holding.{led_answer}
use Rattle.cq_query.proofs.laws.eval.keys_lead_to_answers.Goals as goal

pub returns : goal.returns
returns c = λ Q M query sound well satisfies k edge is rows answer. led_answer Q M query well satisfies sound k edge is rows answer
