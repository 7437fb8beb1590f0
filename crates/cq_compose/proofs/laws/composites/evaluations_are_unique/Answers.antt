use Rattle.cq_compose.proofs.Evaluations.{one_evaluation}
use Rattle.cq_compose.proofs.laws.composites.evaluations_are_unique.Goals as goal

pub returns : goal.returns
returns c = λ Q query M N X one other. one_evaluation Q query.target M N X one other
