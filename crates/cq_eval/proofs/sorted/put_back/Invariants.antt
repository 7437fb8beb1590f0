use Rattle.std.proofs.Common.{◌≡◌, ◌++◌, map}
use Rattle.cq_eval.specs.Order.{picked}
use Rattle.cq_eval.proofs.sorted.put_back.Given as goal

abbrev pub invariant-loop-rows : goal.invariant-loop-rows
invariant-loop-rows l = (l.made.items ≡ map (picked l.places) l.yielded) × (l.yielded ++ l.rows-iterator.rest.items ≡ l.fn.found.items)
