use Rattle.std.proofs.Common.{ap, sym, ◌∙◌}
use Rattle.cq_query.specs.QueryData.{QueryData as Query}
use Rattle.cq_compose.proofs.Stepping.{block_there, all_passed, found_large, passed_small}
use Rattle.cq_compose.proofs.composite.is_large.Goals as goal

pub returns-then-branch : goal.returns-then-branch
returns-then-branch c =
    let pair = c.args.pair.now in
    sym (found_large pair.first.now pair.second.now c.loop-entity.entity c.block-item.result
    (block_there c.as_slice-block-items.result.now pair.second.now.blocks (c.as_slice-block-items.ensures ∙ ap (λ (q : Query). q.blocks) c.second.view_is) c.loop-entity.entity c.block-item.result c.loop-entity-test.true c.block-item.is)
    (sym c.in_ok-is_large_block.ensures ∙ c.if-branch.true))

pub loop-entity-preserved : goal.loop-entity-preserved
loop-entity-preserved c =
    let pair = c.args.pair.now in
    passed_small pair.first.now pair.second.now c.loop-entity.entity c.block-item.result
    (block_there c.as_slice-block-items.result.now pair.second.now.blocks (c.as_slice-block-items.ensures ∙ ap (λ (q : Query). q.blocks) c.second.view_is) c.loop-entity.entity c.block-item.result c.loop-entity-test.true c.block-item.is)
    (sym c.in_ok-is_large_block.ensures ∙ c.if-branch.false)
    ∙ c.loop-entity.invariant

pub returns : goal.returns
returns c =
    let pair = c.args.pair.now in
    sym (all_passed pair.first.now pair.second.now c.as_slice-block-items.result.now (c.as_slice-block-items.ensures ∙ ap (λ (q : Query). q.blocks) c.second.view_is) c.loop-entity.entity c.loop-entity-test.false)
    ∙ c.loop-entity.invariant
