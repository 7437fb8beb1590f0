use Rattle.std.proofs.Common.{◌≡◌, take}
use Rattle.std.specs.List.{enumerate_from, flat_map}
use Rattle.cq_parts.specs.Parts.{block_clauses}
use Rattle.cq_parts.proofs.blocks.clauses_in.Given as goal

abbrev pub invariant-loop-number : goal.invariant-loop-number
invariant-loop-number l = l.parts.items ≡ flat_map block_clauses (enumerate_from 0 (take l.number l.blocks))
