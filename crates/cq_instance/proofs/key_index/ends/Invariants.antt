use Rattle.std.proofs.Common.{◌≡◌, map}
use Rattle.cq_theory.specs.Canonical.{below}
use Rattle.cq_theory.specs.Tables.{row_from}
use Rattle.cq_instance.proofs.key_index.ends.Given as goal

abbrev pub invariant-loop-row : goal.invariant-loop-row
invariant-loop-row l = l.ends.items ≡ map (λ r. row_from l.instance.tables r l.path) (below l.row)
