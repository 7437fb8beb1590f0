use Rattle.std.proofs.Common.{◌≡◌, ◌+◌, take}
use Rattle.std.specs.Prelude.{sum_by}
use Rattle.cq_parts.specs.Parts.{variable_count}
use Rattle.cq_parts.proofs.few.room_after_variables.Given as goal

-- what is left, and the variables so far
abbrev pub invariant-loop-block : goal.invariant-loop-block
invariant-loop-block l = l.left + sum_by variable_count (take l.block-index l.blocks) ≡ l.room
