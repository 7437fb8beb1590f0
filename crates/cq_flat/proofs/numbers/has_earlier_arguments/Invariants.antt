use Rattle.cq_flat.proofs.Arguments.{AreEarlierBelow}
use Rattle.cq_flat.proofs.numbers.has_earlier_arguments.Given as goal

abbrev pub invariant-loop-node : goal.invariant-loop-node
invariant-loop-node l = AreEarlierBelow l.nodes l.node
