use Rattle.cq_compose.proofs.AnswersInTurn.{composite_count}
use Rattle.cq_compose.proofs.laws.composites.composites_count_alike.Goals as goal

pub returns : goal.returns
returns c = composite_count
