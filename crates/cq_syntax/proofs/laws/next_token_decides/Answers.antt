use Rattle.cq_syntax.proofs.Decides.{program_decides}
use Rattle.cq_syntax.proofs.laws.next_token_decides.Goals as goal

pub returns : goal.returns
returns c = program_decides
