use Rattle.std.proofs.Common.{◌≡◌, ◌+◌, take}
use Rattle.std.specs.Prelude.{sum_by}
use Rattle.cq_parts.proofs.few.room_after_each.Given as goal

-- what is left, and the parts so far
abbrev pub invariant-loop-group : goal.invariant-loop-group
invariant-loop-group g l = l.left + sum_by g.C.Counted.count_of (take l.group-index l.groups) ≡ l.room
