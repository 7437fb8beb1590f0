use Rattle.cq_rows.proofs.Passing.{Continues-start}
use Rattle.cq_rows.proofs.settle.retry_given.Goals as goal

pub returns-then-place-len : goal.returns-then-place-len
returns-then-place-len c = Continues-start _ _ _ c.requires.ready.whole c.requires.ready.current
