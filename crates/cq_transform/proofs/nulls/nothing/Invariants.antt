use Rattle.std.proofs.Common.{◌≡◌, None, replicate}
use Rattle.cq_transform.proofs.nulls.nothing.Given as goal

abbrev pub invariant-loop : goal.invariant-loop
invariant-loop l = l.found.items ≡ replicate l.counter None
