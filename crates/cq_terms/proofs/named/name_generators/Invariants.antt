use Rattle.std.proofs.Common.{◌≡◌, ◌+◌, take}
use Rattle.cq_theory.specs.Canonical.{named}
use Rattle.cq_terms.proofs.named.name_generators.Given as goal

abbrev pub invariant-loop-sort : goal.invariant-loop-sort
invariant-loop-sort l = (l.number ≡ 1 + l.sort-index) × (l.made.items ≡ named (take l.sort-index l.sorts))
