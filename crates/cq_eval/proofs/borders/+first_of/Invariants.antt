use Rattle.std.proofs.Common.{◌≡◌, drop, map, min}
use Rattle.cq_eval.specs.Border.{least, first_of}
use Rattle.cq_eval.proofs.borders.+first_of.Given as goal

abbrev pub decreases-first_of : goal.decreases-first_of
decreases-first_of l = goal.size-first_of l

abbrev pub invariant-loop-arg : goal.invariant-loop-arg
invariant-loop-arg l = min l.first (least l.width (map (first_of l.width) (drop l.arg-index l.arg-items))) ≡ first_of l.width l.term
