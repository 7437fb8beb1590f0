use Rattle.std.proofs.Common.{◌≡◌, map, take}
use Rattle.cq_eval.specs.Testing.{stage}
use Rattle.cq_eval.proofs.reaches.stages.Given as goal

abbrev pub invariant-loop-test : goal.invariant-loop-test
invariant-loop-test l = l.made.items ≡ map (stage l.width) (take l.test-index l.tests)
