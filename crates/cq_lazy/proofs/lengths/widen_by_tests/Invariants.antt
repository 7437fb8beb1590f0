use Rattle.std.proofs.Common.{take}
use Rattle.std.specs.Prelude.{All}
use Rattle.cq_lazy.specs.Lengths.{AreWider, IsShortTest}
use Rattle.cq_lazy.proofs.lengths.widen_by_tests.Given as goal

abbrev pub invariant-loop-test : goal.invariant-loop-test
invariant-loop-test l = AreWider l.fn.found l.wide × All (IsShortTest l.under l.wide.most) (take l.test-index l.tests)
