use Rattle.std.proofs.Common.{◌≡◌, take, map}
use Rattle.cq_transform.specs.Shifted.{shifted_type}
use Rattle.cq_push.proofs.shifting.+shift_type.Given as goal

abbrev pub decreases-shift_type : goal.decreases-shift_type
decreases-shift_type l = goal.size-shift_type l

abbrev pub invariant-loop-arg : goal.invariant-loop-arg
invariant-loop-arg l = l.made.items ≡ map (shifted_type l.first) (take l.arg-index l.arg-items)
