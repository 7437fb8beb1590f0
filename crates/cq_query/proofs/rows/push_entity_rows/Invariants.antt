use Rattle.std.proofs.Common.{◌≡◌, ◌++◌}
use Rattle.std.specs.List.{flat_map}
use Rattle.cq_theory.specs.Canonical.{below}
use Rattle.cq_query.specs.Coeval.{row_equations}
use Rattle.cq_query.proofs.rows.push_entity_rows.Given as goal

abbrev pub invariant-loop-row : goal.invariant-loop-row
invariant-loop-row l = l.made.items ≡ l.initial.made.items ++ flat_map (row_equations l.layout.query.now l.layout.sheet.now l.layout.nulls l.entity) (below l.row)
