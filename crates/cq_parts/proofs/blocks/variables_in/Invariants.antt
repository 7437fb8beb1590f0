use Rattle.std.proofs.Common.{◌≡◌, take}
use Rattle.std.specs.List.{enumerate_from, flat_map}
use Rattle.cq_parts.specs.Parts.{block_variables}
use Rattle.cq_parts.proofs.blocks.variables_in.Given as goal

abbrev pub invariant-loop-number : goal.invariant-loop-number
invariant-loop-number l = l.parts.items ≡ flat_map block_variables (enumerate_from 0 (take l.number l.blocks))
