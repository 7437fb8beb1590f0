use Rattle.std.proofs.Common.{◌≡◌, ◌++◌}
use Rattle.std.specs.List.{flat_map}
use Rattle.cq_theory.specs.Canonical.{below}
use Rattle.cq_query.specs.Coeval.{row_sorts}
use Rattle.cq_query.proofs.sorts.push_all_sorts.Given as goal

abbrev pub invariant-loop-entity : goal.invariant-loop-entity
invariant-loop-entity l = l.made.items ≡ l.initial.made.items ++ flat_map (row_sorts l.query l.counts) (below l.entity)
