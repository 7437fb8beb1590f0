use Rattle.std.proofs.Common.{◌≡◌, ◌++◌, map}
use Rattle.std.specs.List.{flat_map}
use Rattle.cq_theory.specs.Canonical.{below}
use Rattle.cq_import.specs.Context.{sheet_in}
use Rattle.cq_import.specs.Imports.{entity_sorts}
use Rattle.cq_import.proofs.generators.push_row_sorts.Given as goal

abbrev pub invariant-loop-entity : goal.invariant-loop-entity
invariant-loop-entity l = l.made.items ≡ l.initial.made.items ++ flat_map (entity_sorts (map sheet_in l.files)) (below l.entity)
