use Rattle.std.proofs.Common.{length}
use Rattle.cq_flat.specs.State.{AnyNode, IsClosing, steps_left}
use Rattle.cq_flat.proofs.closing.close_classes.Given as goal

abbrev pub invariant-loop-alloc : goal.invariant-loop-alloc
invariant-loop-alloc l = IsClosing l.nodes l.fn.equations.items AnyNode l.closing

abbrev pub decreases-loop-alloc : goal.decreases-loop-alloc
decreases-loop-alloc l = steps_left (length l.nodes) l.closing
