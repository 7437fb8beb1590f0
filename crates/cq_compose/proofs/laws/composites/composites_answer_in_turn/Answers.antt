use Rattle.cq_compose.proofs.AnswersInTurn.{composite_answers, composite_alone}
use Rattle.cq_compose.proofs.laws.composites.composites_answer_in_turn.Goals as goal

pub returns : goal.returns
returns c = record { answered = composite_answers; alone = composite_alone }
