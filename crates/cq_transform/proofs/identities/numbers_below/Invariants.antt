use Rattle.std.proofs.Common.{◌≡◌}
use Rattle.cq_theory.specs.Canonical.{below}
use Rattle.cq_transform.proofs.identities.numbers_below.Given as goal

abbrev pub invariant-loop-number : goal.invariant-loop-number
invariant-loop-number l = l.numbers.items ≡ below l.number
