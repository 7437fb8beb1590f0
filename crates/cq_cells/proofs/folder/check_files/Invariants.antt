use Rattle.std.proofs.Common.{◌≡◌, []}
use Rattle.std.specs.List.{flat_map}
use Rattle.cq_theory.specs.Canonical.{below}
use Rattle.cq_cells.specs.Readings.{file_found}
use Rattle.cq_cells.specs.Shown.{Lists}
use Rattle.cq_cells.proofs.Filing.{AreIndexedTo}
use Rattle.cq_cells.proofs.folder.check_files.Given as goal

abbrev pub invariant-loop-entity : goal.invariant-loop-entity
invariant-loop-entity l = Lists l.initial.faults l.faults (λ name. flat_map (file_found name l.schema l.readings) (below l.entity))
    × (l.faults ≡ [] → AreIndexedTo l.readings l.entity l.made.items)
