use Rattle.std.proofs.Common.{rules}
use Rattle.cq_syntax.specs.Grammar.{member, name, pair}
use Rattle.cq_productions.proofs.colimit.PairRuleItem.begins.Goals as goal

pub returns : goal.returns
unfolding pair member name
returns c = search rules
