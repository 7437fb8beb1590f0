use Rattle.std.proofs.Common.{◌≡◌, ◌++◌, map}
use Rattle.cq_blocks.proofs.scopes.table_variables.Given as goal

abbrev pub invariant-loop-vars : goal.invariant-loop-vars
invariant-loop-vars l = (l.scopes.items ≡ map (λ list. list.items) l.yielded) × (l.yielded ++ l.vars-iterator.rest.items ≡ l.fn.lists.items)
