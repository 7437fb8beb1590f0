use Rattle.cq_flat.proofs.Using.{HasUsesBelow}
use Rattle.cq_flat.proofs.uses.uses_of.Given as goal

abbrev pub invariant-loop-node : goal.invariant-loop-node
invariant-loop-node l = HasUsesBelow l.nodes l.uses l.node
