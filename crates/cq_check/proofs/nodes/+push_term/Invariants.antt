use Rattle.std.proofs.Common.{take}
use Rattle.cq_check.proofs.Pushed.{ArePushed}
use Rattle.cq_check.proofs.nodes.+push_term.Given as goal

abbrev pub decreases-push_term : goal.decreases-push_term
decreases-push_term l = goal.size-push_term l

abbrev pub invariant-loop-arg : goal.invariant-loop-arg
invariant-loop-arg l = ArePushed l.tables l.rows l.initial.nodes.items l.nodes.items (take l.arg-index l.arg-items) l.found.items
