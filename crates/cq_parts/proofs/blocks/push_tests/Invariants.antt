use Rattle.std.proofs.Common.{◌≡◌, ◌++◌, map, take}
use Rattle.cq_parts.specs.Parts.{test_clause}
use Rattle.cq_parts.proofs.blocks.push_tests.Given as goal

abbrev pub invariant-loop-test : goal.invariant-loop-test
invariant-loop-test l = l.parts.items ≡ l.initial.parts.items ++ map (test_clause l.block) (take l.test-index l.tests)
