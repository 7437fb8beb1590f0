use Rattle.std.proofs.Common.{refl, inl}
use Rattle.cq_program.proofs.queries.meaning.mean_composite.Goals as goal

pub share_lazy-requires : goal.share_lazy-requires
share_lazy-requires c = c.in-Ok.ensures.sound c.requires.first c.requires.second

pub returns-in-Err-TooLarge-clause-refused : goal.returns-in-Err-TooLarge-clause-refused
returns-in-Err-TooLarge-clause-refused c = λ depth. (refl, inl (refl, rw c.in-Err-TooLarge.field-0-is at c.in-Err-TooLarge.ensures.refused))
