use Rattle.std.proofs.Common.{subst, ◌∙◌}
use Rattle.std.specs.Prelude.{All}
use Rattle.cq_lazy.specs.declared.lengths.Lengths.{Lengths}
use Rattle.cq_lazy.specs.Lengths.{IsShortKey}
use Rattle.cq_lazy.proofs.Widening.{keys_wider, wider_none, wider_more, wider_all}
use Rattle.cq_lazy.proofs.lengths.widen_by_keys.Goals as goal

pub loop-terms-init : goal.loop-terms-init
loop-terms-init c = wider_none (λ (n : Lengths). All (IsShortKey c.args.under.now n)) c.args.keys.now c.args.found

pub loop-terms-preserved : goal.loop-terms-preserved
loop-terms-preserved c =
    wider_more (λ (n : Lengths). All (IsShortKey c.args.under.now n)) (keys_wider c.args.under.now) c.args.keys.now c.loop-terms.terms-index c.terms-item.result c.args.found c.loop-terms.wide c.in_ok-wide.wide c.loop-terms-test.true c.loop-terms.invariant
    (c.in_ok-wide.ensures.0, subst ((λ (n : Lengths). All (IsShortKey c.args.under.now n)) c.in_ok-wide.wide) (c.as_slice.ensures ∙ c.terms-item.is) c.in_ok-wide.ensures.1)

pub returns : goal.returns
returns c = wider_all (λ (n : Lengths). All (IsShortKey c.args.under.now n)) c.args.keys.now c.loop-terms.terms-index c.args.found c.loop-terms.wide c.loop-terms-test.false c.loop-terms.invariant
