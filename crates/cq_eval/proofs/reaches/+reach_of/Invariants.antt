use Rattle.std.proofs.Common.{◌≡◌, drop, map, max}
use Rattle.cq_theory.specs.Term.{greatest}
use Rattle.cq_eval.specs.Testing.{reach_of}
use Rattle.cq_eval.proofs.reaches.+reach_of.Given as goal

abbrev pub decreases-reach_of : goal.decreases-reach_of
decreases-reach_of l = goal.size-reach_of l

abbrev pub invariant-loop-arg : goal.invariant-loop-arg
invariant-loop-arg l = max l.most (greatest (map reach_of (drop l.arg-index l.arg-items))) ≡ reach_of l.term
