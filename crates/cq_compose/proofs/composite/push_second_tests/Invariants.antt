use Rattle.std.proofs.Common.{◌≡◌, ◌++◌, take}
use Rattle.std.specs.List.{flat_map}
use Rattle.cq_compose.specs.Composite.{translated_test}
use Rattle.cq_compose.proofs.composite.push_second_tests.Given as goal

abbrev pub invariant-loop-test : goal.invariant-loop-test
invariant-loop-test l = l.made.items ≡ l.initial.made.items ++ flat_map (translated_test l.frame.first.now l.frame.second.now l.frame.entity) (take l.test-index l.tests)
