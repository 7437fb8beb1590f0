use Rattle.std.proofs.Common.{◌≡◌, map, take, length}
use Rattle.cq_eval.proofs.evaluating.counts.Given as goal

abbrev pub invariant-loop-found : goal.invariant-loop-found
invariant-loop-found l = l.counts.items ≡ map length (take l.found-index l.answers)
