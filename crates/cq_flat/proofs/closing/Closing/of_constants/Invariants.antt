use Rattle.cq_flat.specs.State.{IsClosing, IsEarlyConstant}
use Rattle.cq_flat.proofs.closing.Closing.of_constants.Given as goal

abbrev pub invariant-loop-node : goal.invariant-loop-node
invariant-loop-node l = IsClosing l.nodes l.fn.equations.items (IsEarlyConstant l.nodes l.node) l.closing
