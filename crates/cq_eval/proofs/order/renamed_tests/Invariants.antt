use Rattle.std.proofs.Common.{◌≡◌, map, take}
use Rattle.cq_eval.specs.Order.{renamed}
use Rattle.cq_eval.proofs.order.renamed_tests.Given as goal

abbrev pub invariant-loop-test : goal.invariant-loop-test
invariant-loop-test l = l.made.items ≡ map (renamed l.places) (take l.test-index l.tests)
