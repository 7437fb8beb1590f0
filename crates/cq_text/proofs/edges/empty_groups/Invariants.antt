use Rattle.std.proofs.Common.{[]}
use Rattle.cq_text.specs.Grouped.{IsGrouped}
use Rattle.cq_text.proofs.edges.empty_groups.Given as goal

abbrev pub invariant-loop : goal.invariant-loop
invariant-loop l = IsGrouped [] l.counter l.groups.items
