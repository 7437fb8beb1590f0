use Rattle.cq_compose.proofs.AnswersInTurn.{composite_thrice}
use Rattle.cq_compose.proofs.laws.composites.composites_are_associative.Goals as goal

pub returns : goal.returns
returns c = composite_thrice
