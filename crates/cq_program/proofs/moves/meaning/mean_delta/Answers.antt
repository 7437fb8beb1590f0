use Rattle.std.proofs.Common.{refl, inl}
use Rattle.cq_program.proofs.moves.meaning.mean_delta.Goals as goal

pub returns-in-Err-TooLarge-clause-refused : goal.returns-in-Err-TooLarge-clause-refused
returns-in-Err-TooLarge-clause-refused c = λ depth. (refl, inl (refl, rw c.in-Err-TooLarge.field-0-is at c.in-Err-TooLarge.ensures.refused))
