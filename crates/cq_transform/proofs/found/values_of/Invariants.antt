use Rattle.std.proofs.Common.{◌≡◌, take, map}
use Rattle.cq_transform.specs.Nulls.{value_or_first}
use Rattle.cq_transform.proofs.found.values_of.Given as goal

abbrev pub invariant-loop-value : goal.invariant-loop-value
invariant-loop-value l = l.values.items ≡ map value_or_first (take l.value-index l.found)
