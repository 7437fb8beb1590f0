use Rattle.std.proofs.Common.{◌≡◌, take}
use Rattle.cq_instance.proofs.values.+copied.Given as goal

abbrev pub decreases-copied : goal.decreases-copied
decreases-copied l = goal.size-copied l

abbrev pub invariant-loop-arg : goal.invariant-loop-arg
invariant-loop-arg l = l.made.items ≡ take l.arg-index l.arg-items
