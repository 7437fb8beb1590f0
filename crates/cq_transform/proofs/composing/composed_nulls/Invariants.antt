use Rattle.std.proofs.Common.{◌≡◌, map, take}
use Rattle.cq_transform.specs.Sent.{value_sent}
use Rattle.cq_transform.proofs.composing.composed_nulls.Given as goal

abbrev pub invariant-loop-value : goal.invariant-loop-value
invariant-loop-value l = l.made.items ≡ map (value_sent l.last.tables.algebra.entries l.second.nulls) (take l.value-index l.values)
