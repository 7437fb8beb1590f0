use Rattle.std.proofs.Common.{◌≡◌, ◌+◌, length}
use Rattle.cq_eval.proofs.Firsts.{AreSoFar}
use Rattle.cq_eval.proofs.borders.least_firsts.Given as goal

abbrev pub invariant-loop-test : goal.invariant-loop-test
invariant-loop-test l = record { long : length l.firsts.items ≡ l.width + 1; firsts : AreSoFar l.width l.tests l.test-index l.firsts.items }
