use Rattle.std.proofs.Common.{◌≡◌, ◌++◌}
use Rattle.std.specs.List.{flat_map}
use Rattle.cq_theory.specs.Canonical.{below}
use Rattle.cq_instance.specs.Numbers.{row_sorts}
use Rattle.cq_instance.proofs.canonical.generators.push_all_sorts.Given as goal

abbrev pub invariant-loop-entity : goal.invariant-loop-entity
invariant-loop-entity l = l.made.items ≡ l.initial.made.items ++ flat_map (row_sorts l.counts) (below l.entity)
