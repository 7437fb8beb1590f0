use Rattle.std.proofs.Common.{refl}
use Rattle.cq_flat.proofs.Arguments.{earlier_all}
use Rattle.cq_flat.proofs.numbers.has_earlier_arguments.Goals as goal

pub returns : goal.returns
returns c = (λ _. earlier_all c.args.nodes.now c.loop-node.node c.loop-node-test.false c.loop-node.invariant, λ _. refl)
