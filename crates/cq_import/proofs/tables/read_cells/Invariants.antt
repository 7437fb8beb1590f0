use Rattle.std.proofs.Common.{◌-◌, length}
use Rattle.std.specs.List.{flat_map, range_with_len}
use Rattle.cq_theory.specs.Canonical.{below}
use Rattle.cq_import.specs.Cells.{entity_cells}
use Rattle.cq_import.specs.Context.{sheets_in}
use Rattle.cq_import.proofs.CellLists.{AreReading}
use Rattle.cq_import.proofs.Rooms.{Fits}
use Rattle.cq_import.proofs.tables.read_cells.Given as goal

abbrev pub invariant-loop-entity : goal.invariant-loop-entity
invariant-loop-entity l =
    AreReading l.context l.initial.made l.made (flat_map (entity_cells l.context.schema.now (sheets_in l.context)) (below (length l.context.files.now)))
    (flat_map (entity_cells l.context.schema.now (sheets_in l.context)) (range_with_len l.entity (length l.context.files.now - l.entity)))
    × Fits l.context.first l.made.labels
