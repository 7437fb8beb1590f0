use Rattle.std.proofs.Common.{◌≡◌, take}
use Rattle.cq_eval.specs.Order.{picked}
use Rattle.cq_eval.proofs.order.picked.Given as goal

abbrev pub invariant-loop-place : goal.invariant-loop-place
invariant-loop-place l = l.made.items ≡ picked (take l.place-index l.places) l.numbers
