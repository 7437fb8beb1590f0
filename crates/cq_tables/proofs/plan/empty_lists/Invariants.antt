use Rattle.std.proofs.Common.{◌≡◌, [], map, replicate}
use Rattle.cq_tables.proofs.plan.empty_lists.Given as goal

abbrev pub invariant-loop-entity : goal.invariant-loop-entity
invariant-loop-entity l = map (λ list. list.items) l.lists.items ≡ replicate l._entity []
