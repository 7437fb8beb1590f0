use Rattle.std.proofs.Common.{◌≡◌, drop}
use Rattle.std.specs.List.{list_any}
use Rattle.cq_theory.specs.Presentation.{has_long_side}
use Rattle.cq_compose.specs.Composite.{translated_test}
use Rattle.cq_compose.proofs.lengths.any_long_test.Given as goal

abbrev pub invariant-loop-test : goal.invariant-loop-test
invariant-loop-test l = list_any (λ test. list_any has_long_side (translated_test l.frame.first.now l.frame.second.now l.frame.entity test)) (drop l.test-index l.tests) ≡ list_any (λ test. list_any has_long_side (translated_test l.frame.first.now l.frame.second.now l.frame.entity test)) l.tests
