use Rattle.std.proofs.Common.{ℕ, ◌<◌}
use Rattle.cq_eval.specs.Order.{IsBack}
use Rattle.cq_eval.proofs.order.leads_back.Given as goal

abbrev pub invariant-loop-number : goal.invariant-loop-number
invariant-loop-number l = (n : ℕ) → n < l.number → IsBack l.numbers l.places n
