use Rattle.std.proofs.Common.{◌≡◌, take}
use Rattle.cq_parts.proofs.raw.+copy_raw.Given as goal

abbrev pub decreases-copy_raw : goal.decreases-copy_raw
decreases-copy_raw l = goal.size-copy_raw l

abbrev pub invariant-loop-arg : goal.invariant-loop-arg
invariant-loop-arg l = l.copies.items ≡ take l.arg-index l.arg-items
