use Rattle.cq_steps.proofs.Derivable.{right_derived}
use Rattle.cq_steps.proofs.laws.right_steps.Goals as goal

pub returns : goal.returns
returns c S P steps right n step is = right_derived S P steps right.1 n step is
