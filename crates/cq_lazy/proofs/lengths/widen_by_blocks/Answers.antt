use Rattle.std.proofs.Common.{subst}
use Rattle.cq_lazy.specs.declared.lengths.Lengths.{Lengths}
use Rattle.cq_lazy.specs.Lengths.{IsShortBlock}
use Rattle.cq_lazy.proofs.Widening.{block_wider, wider_none, wider_more, wider_all}
use Rattle.cq_lazy.proofs.lengths.widen_by_blocks.Goals as goal

pub loop-block-init : goal.loop-block-init
loop-block-init c = wider_none (λ (n : Lengths). IsShortBlock c.args.under.now n) c.args.blocks.now c.args.found

pub loop-block-preserved : goal.loop-block-preserved
loop-block-preserved c =
    wider_more (λ (n : Lengths). IsShortBlock c.args.under.now n) (block_wider c.args.under.now) c.args.blocks.now c.loop-block.block-index c.block-item.result c.args.found c.loop-block.wide c.in_ok-wide.wide c.loop-block-test.true c.loop-block.invariant
    (c.in_ok-wide.ensures.0, subst ((λ (n : Lengths). IsShortBlock c.args.under.now n) c.in_ok-wide.wide) c.block-item.is c.in_ok-wide.ensures.1)

pub returns : goal.returns
returns c = wider_all (λ (n : Lengths). IsShortBlock c.args.under.now n) c.args.blocks.now c.loop-block.block-index c.args.found c.loop-block.wide c.loop-block-test.false c.loop-block.invariant
