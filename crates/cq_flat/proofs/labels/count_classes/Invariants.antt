use Rattle.std.proofs.Common.{◌≤◌}
use Rattle.cq_flat.proofs.labels.count_classes.Given as goal

abbrev pub invariant-loop-node : goal.invariant-loop-node
invariant-loop-node l = l.count ≤ l.node
