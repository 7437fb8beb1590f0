use Rattle.std.proofs.Common.{take}
use Rattle.cq_model.proofs.AddedSides.{AreAtRows}
use Rattle.cq_model.proofs.equations.push_entity.Given as goal

abbrev pub invariant-loop-row : goal.invariant-loop-row
invariant-loop-row l = AreAtRows l.ground.schema.now l.ground.tables.now l.ground.places.now l.entity (take l.row-index l.rows) l.initial.list l.list
