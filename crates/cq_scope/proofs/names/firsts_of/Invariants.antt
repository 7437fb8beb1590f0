use Rattle.std.proofs.Common.{take}
use Rattle.cq_scope.specs.Firsts.{AreFirsts}
use Rattle.cq_scope.proofs.names.firsts_of.Given as goal

abbrev pub invariant-loop-number : goal.invariant-loop-number
invariant-loop-number l = AreFirsts (take l.number l.generators) l.names l.sorts.items l.numbers.items
