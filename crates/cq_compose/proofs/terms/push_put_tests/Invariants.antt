use Rattle.std.proofs.Common.{◌≡◌, ◌++◌, map, take}
use Rattle.cq_query.specs.Puts.{put_equation}
use Rattle.cq_compose.specs.Frame.{terms_of}
use Rattle.cq_compose.proofs.terms.push_put_tests.Given as goal

abbrev pub invariant-loop-test : goal.invariant-loop-test
invariant-loop-test l = l.made.items ≡ l.initial.made.items ++ map (put_equation (terms_of l.frame l.at)) (take l.test-index l.tests)
