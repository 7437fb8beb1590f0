use Rattle.std.proofs.Common.{◌≡◌, map}
use Rattle.cq_theory.specs.Canonical.{below}
use Rattle.cq_instance.specs.Standing.{meaning}
use Rattle.cq_transform.specs.Rows.{rows_there}
use Rattle.cq_transform.proofs.rows.rows.Given as goal

abbrev pub invariant-loop-entity : goal.invariant-loop-entity
invariant-loop-entity l = l.rows.items ≡ map (rows_there l.source l.target (map meaning l.standings)) (below l.entity)
