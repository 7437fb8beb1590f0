use Rattle.std.proofs.Common.{◌≡◌, drop}
use Rattle.cq_blocks.specs.Blocks.{missing_keys}
use Rattle.cq_blocks.proofs.missing.check_keys.Given as goal

abbrev pub invariant-loop-key : goal.invariant-loop-key
invariant-loop-key l = missing_keys l.target l.clauses (drop l.key-index l.keys) ≡ missing_keys l.target l.clauses l.keys
