use Rattle.std.proofs.Common.{take}
use Rattle.cq_model.proofs.AddedSides.{AreGiven}
use Rattle.cq_model.proofs.equations.push_given.Given as goal

abbrev pub invariant-loop-equation : goal.invariant-loop-equation
invariant-loop-equation l = AreGiven l.ground.schema.now l.ground.tables.now l.ground.places.now l.presentation l.entries (take l.equation-index l.presentation.equations) l.initial.list l.list
