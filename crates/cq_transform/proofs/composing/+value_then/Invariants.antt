use Rattle.std.proofs.Common.{◌≡◌, map, take}
use Rattle.cq_transform.specs.Sent.{value_sent}
use Rattle.cq_transform.proofs.composing.+value_then.Given as goal

abbrev pub decreases-value_then : goal.decreases-value_then
decreases-value_then l = goal.size-value_then l

abbrev pub invariant-loop-arg : goal.invariant-loop-arg
invariant-loop-arg l = l.made.items ≡ map (value_sent l.last.tables.algebra.entries l.second.nulls) (take l.arg-index l.arg-items)
