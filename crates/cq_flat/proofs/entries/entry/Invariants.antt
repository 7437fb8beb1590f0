use Rattle.std.proofs.Common.{◌≡◌, map, take}
use Rattle.cq_flat.specs.Places.{values_in}
use Rattle.cq_flat.specs.Values.{value_at}
use Rattle.cq_flat.proofs.entries.entry.Given as goal

abbrev pub invariant-loop-arg : goal.invariant-loop-arg
invariant-loop-arg l = l.list.items ≡ map (value_at (values_in l.values)) (take l.arg-index l.args)
