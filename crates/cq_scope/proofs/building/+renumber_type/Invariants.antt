use Rattle.std.proofs.Common.{◌≡◌, map, take}
use Rattle.cq_scope.specs.Renumbered.{type_renumbered}
use Rattle.cq_scope.proofs.building.+renumber_type.Given as goal

abbrev pub decreases-renumber_type : goal.decreases-renumber_type
decreases-renumber_type l = goal.size-renumber_type l

abbrev pub invariant-loop-arg : goal.invariant-loop-arg
invariant-loop-arg l = l.made.items ≡ map (type_renumbered l.numbers) (take l.arg-index l.arg-items)
