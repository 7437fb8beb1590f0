use Rattle.std.proofs.Common.{take}
use Rattle.cq_model.proofs.PushedTerms.{ArePushed}
use Rattle.cq_model.proofs.nodes.+push_term.Given as goal

abbrev pub decreases-push_term : goal.decreases-push_term
decreases-push_term l = goal.size-push_term l

abbrev pub invariant-loop-arg : goal.invariant-loop-arg
invariant-loop-arg l = ArePushed l.ground.schema.now l.ground.tables.now l.ground.places.now l.rows l.initial.list l.list (take l.arg-index l.arg-items) l.found.items
