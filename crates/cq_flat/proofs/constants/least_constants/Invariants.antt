use Rattle.cq_flat.specs.Constants.{AreLeast, constants_at}
use Rattle.cq_flat.proofs.constants.least_constants.Given as goal

abbrev pub invariant-loop-node : goal.invariant-loop-node
invariant-loop-node l = AreLeast l.nodes l.classes l.node (constants_at l.nodes l.least.items)
