use Rattle.std.proofs.Common.{◌≡◌, ◌++◌}
use Rattle.std.specs.List.{flat_map}
use Rattle.cq_theory.specs.Canonical.{below}
use Rattle.cq_query.specs.Coeval.{entity_equations}
use Rattle.cq_query.proofs.rows.push_rows.Given as goal

abbrev pub invariant-loop-entity : goal.invariant-loop-entity
invariant-loop-entity l = l.made.items ≡ l.initial.made.items ++ flat_map (entity_equations l.layout.query.now l.layout.sheet.now l.layout.nulls) (below l.entity)
