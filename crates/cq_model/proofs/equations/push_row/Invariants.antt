use Rattle.std.proofs.Common.{take}
use Rattle.cq_tables.specs.Content.{entity_of as row_entity}
use Rattle.cq_model.proofs.AddedSides.{AreAtRow}
use Rattle.cq_instance.proofs.FoundEquations.{found_at}
use Rattle.cq_model.proofs.equations.push_row.Given as goal

abbrev pub invariant-loop-number : goal.invariant-loop-number
invariant-loop-number l = AreAtRow l.ground.schema.now l.ground.tables.now l.ground.places.now (row_entity l.ground.tables.now l.row) l.row (found_at l.ground.schema.now.obs_eqs (take l.number-index l.numbers)) l.initial.list l.list
