use Rattle.std.proofs.Common.{◌≡◌, take}
use Rattle.cq_terms.proofs.same.+type_terms.Given as goal

abbrev pub invariant-are_same_type_terms-loop-place : goal.invariant-are_same_type_terms-loop-place
invariant-are_same_type_terms-loop-place l = take l.place l.left ≡ take l.place l.right
