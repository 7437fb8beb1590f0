use Rattle.cq_program.proofs.Unkept.{one_unkept}
use Rattle.cq_program.proofs.laws.one_unkept.Goals as goal

pub returns : goal.returns
returns c = one_unkept
