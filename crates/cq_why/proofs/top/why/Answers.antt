use Rattle.cq_why.proofs.Telling.{told_gives}
use Rattle.cq_why.proofs.top.why.Goals as goal

pub returns-in-Ok-clause-gives : goal.returns-in-Ok-clause-gives
returns-in-Ok-clause-gives g c = told_gives _ _ _ _ _ _ _ _ c.in-Ok.ensures.tells c.as_slice.ensures.value c.tell.ensures
