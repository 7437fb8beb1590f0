use Rattle.std.proofs.Common.{subst}
use Rattle.cq_lazy.specs.declared.lengths.Lengths.{Lengths}
use Rattle.cq_lazy.specs.Lengths.{IsShortKey}
use Rattle.cq_lazy.proofs.Widening.{key_wider, wider_none, wider_more, wider_all}
use Rattle.cq_lazy.proofs.lengths.widen_by_terms.Goals as goal

pub loop-term-init : goal.loop-term-init
loop-term-init c = wider_none (λ (n : Lengths). IsShortKey c.args.under.now n) c.args.terms.now c.args.found

pub loop-term-preserved : goal.loop-term-preserved
loop-term-preserved c =
    wider_more (λ (n : Lengths). IsShortKey c.args.under.now n) (key_wider c.args.under.now) c.args.terms.now c.loop-term.term-index c.term-item.result c.args.found c.loop-term.wide c.in_ok-wide.wide c.loop-term-test.true c.loop-term.invariant
    (c.in_ok-wide.ensures.0, subst ((λ (n : Lengths). IsShortKey c.args.under.now n) c.in_ok-wide.wide) c.term-item.is c.in_ok-wide.ensures.1)

pub returns : goal.returns
returns c = wider_all (λ (n : Lengths). IsShortKey c.args.under.now n) c.args.terms.now c.loop-term.term-index c.args.found c.loop-term.wide c.loop-term-test.false c.loop-term.invariant
