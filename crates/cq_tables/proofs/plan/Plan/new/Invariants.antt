use Rattle.std.proofs.Common.{map}
use Rattle.cq_tables.proofs.Planned.{IsCounted}
use Rattle.cq_tables.proofs.plan.Plan.new.Given as goal

abbrev pub invariant-loop-number : goal.invariant-loop-number
invariant-loop-number l = IsCounted l.keys l.entities l.slots.items (map (λ list. list.items) l.starting.items) l.number
