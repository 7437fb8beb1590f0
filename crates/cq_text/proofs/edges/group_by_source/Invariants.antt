use Rattle.std.proofs.Common.{take}
use Rattle.cq_text.specs.Grouped.{IsGrouped}
use Rattle.cq_text.proofs.edges.group_by_source.Given as goal

abbrev pub invariant-loop-number : goal.invariant-loop-number
invariant-loop-number l = IsGrouped (take l.number l.edges) l.entities l.groups.items
