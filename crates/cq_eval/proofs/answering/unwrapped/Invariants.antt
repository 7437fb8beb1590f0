use Rattle.std.proofs.Common.{◌≡◌, ◌++◌, map}
use Rattle.cq_eval.proofs.answering.unwrapped.Given as goal

abbrev pub invariant-loop-rows : goal.invariant-loop-rows
invariant-loop-rows l = (map (λ rows. rows.items) l.made.items ≡ l.yielded) × (l.yielded ++ l.rows-iterator.rest.items ≡ l.fn.found.items)
