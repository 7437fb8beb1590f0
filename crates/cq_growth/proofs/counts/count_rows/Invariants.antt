use Rattle.std.proofs.Common.{◌≡◌, map}
use Rattle.cq_tables.specs.Content.{entities_of}
use Rattle.cq_theory.specs.Canonical.{below}
use Rattle.cq_growth.specs.Counts.{rows_below}
use Rattle.cq_growth.proofs.counts.count_rows.Given as goal

abbrev pub invariant-loop-row : goal.invariant-loop-row
invariant-loop-row l = l.counts.items ≡ map (λ e. rows_below l.tables e l.row) (below (entities_of l.tables))
