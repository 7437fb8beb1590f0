use Rattle.std.proofs.Common.{◌++◌, ap, ◌∙◌}
use Rattle.cq_syntax.specs.declared.literal.QueryBlock.{QueryBlock}
use Rattle.cq_parts.specs.Parts.{clause_places}
use Rattle.cq_parts.proofs.Appended.{more_parts}
use Rattle.cq_parts.proofs.block_places.push_clauses.Goals as goal

pub loop-block-preserved : goal.loop-block-preserved
loop-block-preserved c =
    more_parts clause_places c.args.places.now.items c.loop-block.places.items c.push_block_clauses.new.places.items c.args.blocks.now c.loop-block.block-index c.block-item.result
    c.loop-block-test.true c.loop-block.invariant (c.in_ok-push_block_clauses.ensures ∙ ap (λ (b : QueryBlock). c.loop-block.places.items ++ clause_places b) c.block-item.is)
