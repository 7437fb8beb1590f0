use Rattle.std.proofs.Common.{◌≡◌}
use Rattle.cq_query.specs.Puts.{generators_from}
use Rattle.cq_query.proofs.puts.generators.Given as goal

abbrev pub invariant-loop-number : goal.invariant-loop-number
invariant-loop-number l = l.made.items ≡ generators_from l.first l.number
