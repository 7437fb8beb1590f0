use Rattle.std.proofs.Common.{◌≡◌, drop}
use Rattle.cq_blocks.specs.Blocks.{missing_assigned}
use Rattle.cq_blocks.proofs.missing.check_all_assigned.Given as goal

abbrev pub invariant-loop-key : goal.invariant-loop-key
invariant-loop-key l = missing_assigned l.target l.scopes l.clauses (drop l.key-index l.keys) ≡ missing_assigned l.target l.scopes l.clauses l.keys
