use Rattle.std.proofs.Common.{[]}
use Rattle.cq_import.specs.Columns.{IsGrouped, attribute_of}
use Rattle.cq_import.proofs.columns.empty_lists.Given as goal

abbrev pub invariant-loop : goal.invariant-loop
invariant-loop l = IsGrouped (λ _. []) attribute_of [] l.counter l.lists.items
