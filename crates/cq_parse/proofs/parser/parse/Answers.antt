use Rattle.cq_syntax.proofs.Decides.{program_decides}
use Rattle.cq_parse.proofs.Endings.{program_ends}
use Rattle.cq_parse.proofs.parser.parse.Goals as goal

pub whole-requires-clause-decided : goal.whole-requires-clause-decided
whole-requires-clause-decided c = program_decides

pub whole-requires-clause-closed : goal.whole-requires-clause-closed
whole-requires-clause-closed c = program_ends
