use Rattle.std.proofs.Common.{◌≡◌, length, false}
use Rattle.cq_lex.specs.Front as found
use Rattle.cq_lex.specs.Front.{behind}
use Rattle.cq_lex.proofs.text.content.Given as goal

abbrev pub invariant-bytes : goal.invariant-bytes
invariant-bytes l = found.content false l.bytes ≡ behind l.content.items (found.content false l.rest)

abbrev pub decreases-bytes : goal.decreases-bytes
decreases-bytes l = length l.rest
