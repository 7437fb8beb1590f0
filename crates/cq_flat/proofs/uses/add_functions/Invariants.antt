use Rattle.cq_flat.specs.Closing.{AddsFunctions}
use Rattle.cq_flat.proofs.uses.add_functions.Given as goal

abbrev pub invariant-loop-node : goal.invariant-loop-node
invariant-loop-node l = AddsFunctions l.nodes l.node l.initial.numbers.items l.numbers.items
