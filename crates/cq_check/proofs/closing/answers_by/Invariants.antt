use Rattle.cq_check.proofs.Questions.{ToldFirst}
use Rattle.cq_check.proofs.closing.answers_by.Given as goal

abbrev pub invariant-loop-one : goal.invariant-loop-one
invariant-loop-one l = ToldFirst l.flat.values l.asked l.answers.items l.one-index
