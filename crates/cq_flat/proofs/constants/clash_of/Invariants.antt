use Rattle.cq_flat.specs.Constants.{IsExcess, constants_at}
use Rattle.cq_flat.proofs.constants.clash_of.Given as goal

abbrev pub invariant-loop-node : goal.invariant-loop-node
invariant-loop-node l = IsExcess l.nodes l.classes (constants_at l.nodes l.least) l.node l.clash
