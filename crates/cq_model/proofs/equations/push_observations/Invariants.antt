use Rattle.cq_model.proofs.AddedSides.{AreObserved}
use Rattle.cq_model.proofs.equations.push_observations.Given as goal

abbrev pub invariant-loop-entity : goal.invariant-loop-entity
invariant-loop-entity l = AreObserved l.ground.schema.now l.ground.tables.now l.ground.places.now l.order l.entity l.initial.list l.list
