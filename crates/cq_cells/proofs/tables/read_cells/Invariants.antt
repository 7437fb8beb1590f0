use Rattle.std.proofs.Common.{◌-◌, length}
use Rattle.std.specs.List.{flat_map, range_with_len}
use Rattle.cq_import.specs.Cells.{all_cells, entity_cells}
use Rattle.cq_cells.specs.Passes.{sheets_over}
use Rattle.cq_cells.proofs.Passing.{Goes}
use Rattle.cq_cells.proofs.tables.read_cells.Given as goal

abbrev pub invariant-loop-entity : goal.invariant-loop-entity
invariant-loop-entity l =
    Goes l.over l.initial.pass l.pass (λ name. all_cells l.over.schema.now (sheets_over l.over name))
    (λ name. flat_map (entity_cells l.over.schema.now (sheets_over l.over name)) (range_with_len l.entity (length l.over.schema.now.entities - l.entity)))
