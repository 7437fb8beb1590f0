use Rattle.std.proofs.Common.{ℕ, ◌≡◌, ◌+◌, ◌*◌, map, sum, take}
use Rattle.cq_lazy.specs.Lengths.{length_at}
use Rattle.cq_lazy.proofs.terms.+type_length.Given as goal

abbrev pub decreases-type_length : goal.decreases-type_length
decreases-type_length l = goal.size-type_length l

abbrev pub invariant-loop-arg : goal.invariant-loop-arg
invariant-loop-arg l = (x : ℕ) → sum (map (length_at l.under x) (take l.arg-index l.arg-items)) + 1 ≡ l.line.symbols + l.line.leaves * x
