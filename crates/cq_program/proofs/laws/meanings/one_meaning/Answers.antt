use Rattle.cq_program.proofs.OneMeaning.{one_meaning}
use Rattle.cq_program.proofs.laws.meanings.one_meaning.Goals as goal

pub returns : goal.returns
returns c = one_meaning
