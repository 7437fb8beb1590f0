use Rattle.std.proofs.Common.{◌≡◌, map}
use Rattle.cq_theory.specs.Canonical.{below}
use Rattle.cq_instance.specs.Standing.{meaning}
use Rattle.cq_transform.specs.Rows.{row_there}
use Rattle.cq_transform.proofs.rows.entity_rows.Given as goal

abbrev pub invariant-loop-row : goal.invariant-loop-row
invariant-loop-row l = l.rows.items ≡ map (row_there l.source l.target (map meaning l.standings) l.entity) (below l.row)
