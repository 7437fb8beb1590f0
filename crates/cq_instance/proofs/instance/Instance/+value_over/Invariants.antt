use Rattle.std.proofs.Common.{◌≡◌, take, map}
use Rattle.cq_theory.specs.Tables.{value_of}
use Rattle.cq_instance.specs.Standing.{meaning}
use Rattle.cq_instance.proofs.instance.Instance.+value_over.Given as goal

abbrev pub decreases-value_over : goal.decreases-value_over
decreases-value_over l = goal.size-value_over l

abbrev pub invariant-loop-arg : goal.invariant-loop-arg
invariant-loop-arg l = l.values.items ≡ map (value_of l.self.tables (map meaning l.standings)) (take l.arg-index l.arg-items)
