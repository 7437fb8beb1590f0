use Rattle.cq_syntax.proofs.OneProgram.{one_program}
use Rattle.cq_syntax.proofs.laws.one_program.Goals as goal

pub returns : goal.returns
returns c = one_program
