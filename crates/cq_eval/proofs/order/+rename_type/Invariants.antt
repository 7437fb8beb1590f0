use Rattle.std.proofs.Common.{◌≡◌, map, take}
use Rattle.cq_eval.specs.Order.{renamed_type}
use Rattle.cq_eval.proofs.order.+rename_type.Given as goal

abbrev pub decreases-rename_type : goal.decreases-rename_type
decreases-rename_type l = goal.size-rename_type l

abbrev pub invariant-loop-arg : goal.invariant-loop-arg
invariant-loop-arg l = l.made.items ≡ map (renamed_type l.places) (take l.arg-index l.arg-items)
