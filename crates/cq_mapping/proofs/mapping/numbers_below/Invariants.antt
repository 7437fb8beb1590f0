use Rattle.std.proofs.Common.{◌≡◌}
use Rattle.cq_theory.specs.Canonical.{below}
use Rattle.cq_mapping.proofs.mapping.numbers_below.Given as goal

abbrev pub invariant-loop-number : goal.invariant-loop-number
invariant-loop-number l = l.made.items ≡ below l.number
