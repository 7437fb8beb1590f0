use Rattle.std.proofs.Common.{subst}
use Rattle.cq_lazy.specs.declared.lengths.Lengths.{Lengths}
use Rattle.cq_lazy.specs.Lengths.{IsShortTest}
use Rattle.cq_lazy.proofs.Widening.{test_wider, wider_none, wider_more, wider_all}
use Rattle.cq_lazy.proofs.lengths.widen_by_tests.Goals as goal

pub loop-test-init : goal.loop-test-init
loop-test-init c = wider_none (λ (n : Lengths). IsShortTest c.args.under.now n.most) c.args.tests.now c.args.found

pub loop-test-preserved : goal.loop-test-preserved
loop-test-preserved c =
    wider_more (λ (n : Lengths). IsShortTest c.args.under.now n.most) (test_wider c.args.under.now) c.args.tests.now c.loop-test.test-index c.test-item.result c.args.found c.loop-test.wide c.in_ok-wide.wide c.loop-test-test.true c.loop-test.invariant
    (c.in_ok-wide.ensures.0, subst ((λ (n : Lengths). IsShortTest c.args.under.now n.most) c.in_ok-wide.wide) c.test-item.is c.in_ok-wide.ensures.1)

pub returns : goal.returns
returns c = wider_all (λ (n : Lengths). IsShortTest c.args.under.now n.most) c.args.tests.now c.loop-test.test-index c.args.found c.loop-test.wide c.loop-test-test.false c.loop-test.invariant
