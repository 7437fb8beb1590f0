use Rattle.std.proofs.Common.{[], ◌∷◌, ◌++◌, ap, sym, ◌∙◌}
use Rattle.cq_blocks.specs.declared.block.Block.{Block}
use Rattle.cq_query.specs.QueryData.{QueryData as Query}
use Rattle.cq_compose.proofs.Finishing.{at_none, at_some}
use Rattle.cq_compose.proofs.Stepping.{block_there, all_taken, found_large, one_more}
use Rattle.cq_compose.proofs.composite.compose_blocks.Goals as goal

pub returns-in-None-clause-refused : goal.returns-in-None-clause-refused
returns-in-None-clause-refused c =
    let pair = c.args.pair.now in
    found_large pair.first.now pair.second.now c.loop-entity.entity c.block-item.result
    (block_there c.as_slice-block-items.result.now pair.second.now.blocks (c.as_slice-block-items.ensures ∙ ap (λ (q : Query). q.blocks) c.second.view_is) c.loop-entity.entity c.block-item.result c.loop-entity-test.true c.block-item.is)
    (at_none c.in_ok-found.found _ _ c.in-None.is c.in_ok-found.ensures)

pub loop-entity-preserved : goal.loop-entity-preserved
loop-entity-preserved c =
    let pair = c.args.pair.now in
    c.in_ok-push-in-Some.ensures.items ∙ ap (λ (x : Block). c.loop-entity.made.items ++ x ∷ []) (at_some c.in_ok-found.found _ _ c.in-Some.composed c.in-Some.is c.in_ok-found.ensures).0
    ∙ one_more pair.first.now pair.second.now c.loop-entity.entity c.block-item.result
    (block_there c.as_slice-block-items.result.now pair.second.now.blocks (c.as_slice-block-items.ensures ∙ ap (λ (q : Query). q.blocks) c.second.view_is) c.loop-entity.entity c.block-item.result c.loop-entity-test.true c.block-item.is)
    c.loop-entity.made.items c.loop-entity.invariant

pub returns-clause-made : goal.returns-clause-made
returns-clause-made c =
    let pair = c.args.pair.now in
    c.loop-entity.invariant
    ∙ all_taken pair.first.now pair.second.now c.as_slice-block-items.result.now (c.as_slice-block-items.ensures ∙ ap (λ (q : Query). q.blocks) c.second.view_is) c.loop-entity.entity c.loop-entity-test.false
