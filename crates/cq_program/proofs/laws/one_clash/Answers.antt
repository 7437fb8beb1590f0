use Rattle.cq_program.proofs.Constants.{one_clash}
use Rattle.cq_program.proofs.laws.one_clash.Goals as goal

pub returns : goal.returns
returns c = one_clash
