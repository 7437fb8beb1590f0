use Rattle.std.proofs.Common.{◌≡◌, ◌++◌, map}
use Rattle.cq_theory.specs.Canonical.{below}
use Rattle.cq_theory.specs.Tables.{AtRow}
use Rattle.cq_instance.specs.Standing.{meaning}
use Rattle.cq_instance.proofs.canonical.generators.push_row_standings.Given as goal

abbrev pub invariant-loop-row : goal.invariant-loop-row
invariant-loop-row l = map meaning l.made.items ≡ map meaning l.initial.made.items ++ map AtRow (below l.row)
