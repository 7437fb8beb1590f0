use Rattle.std.proofs.Common.{◌≡◌, take}
use Rattle.cq_terms.proofs.same.+values.Given as goal

abbrev pub invariant-are_same_values-loop-place : goal.invariant-are_same_values-loop-place
invariant-are_same_values-loop-place l = take l.place l.left ≡ take l.place l.right
