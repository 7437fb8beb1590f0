use Rattle.cq_query.proofs.Holding.{frozen_holds}
use Rattle.cq_query.proofs.laws.eval.answers_hold.Goals as goal

pub returns : goal.returns
returns c = λ Q M query well satisfies entity rows answer. frozen_holds Q M query well satisfies entity rows answer
