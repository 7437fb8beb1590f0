use Rattle.cq_program.proofs.Constants.{consistent}
use Rattle.cq_program.proofs.laws.listed_is_consistent.Goals as goal

pub returns : goal.returns
returns c = consistent
