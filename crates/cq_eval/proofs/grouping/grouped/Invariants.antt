use Rattle.std.proofs.Common.{◌≡◌, map, take}
use Rattle.cq_theory.specs.Canonical.{below}
use Rattle.cq_theory.specs.Groups.{positions}
use Rattle.cq_eval.proofs.grouping.grouped.Given as goal

abbrev pub invariant-loop-number : goal.invariant-loop-number
invariant-loop-number l = map (λ group. group.items) l.groups.items ≡ map (positions (take l.number l.members)) (below l.count)
