use Rattle.std.proofs.Common.{◌≡◌, length}
use Rattle.cq_lex.specs.Front as found
use Rattle.cq_lex.proofs.comment.behind_block.Given as goal

abbrev pub invariant-bytes : goal.invariant-bytes
invariant-bytes l = found.behind_block l.bytes ≡ found.behind_block l.rest

abbrev pub decreases-bytes : goal.decreases-bytes
decreases-bytes l = length l.rest
