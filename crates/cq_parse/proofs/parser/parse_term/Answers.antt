use Rattle.cq_syntax.proofs.Decides.{lone_term_decides}
use Rattle.cq_parse.proofs.Endings.{lone_term_ends, term_refused}
use Rattle.cq_parse.proofs.parser.parse_term.Goals as goal

pub whole-requires-clause-decided : goal.whole-requires-clause-decided
whole-requires-clause-decided c = lone_term_decides

pub whole-requires-clause-closed : goal.whole-requires-clause-closed
whole-requires-clause-closed c = lone_term_ends

pub returns-clause-refused : goal.returns-clause-refused
returns-clause-refused c = term_refused c.args.tokens.now c.whole.result c.whole.ensures.refused
