use Rattle.std.proofs.Common.{List, ◌++◌, ap, ◌∙◌}
use Rattle.std.specs.List.{flat_map}
use Rattle.cq_syntax.specs.declared.part.GroupSyn.{GroupSyn}
use Rattle.cq_syntax.specs.declared.literal.QueryBlock.{QueryBlock}
use Rattle.cq_parts.specs.Parts.{group_places, variable_places}
use Rattle.cq_parts.proofs.Appended.{more_parts}
use Rattle.cq_parts.proofs.block_places.push_variables.Goals as goal

pub loop-block-preserved : goal.loop-block-preserved
loop-block-preserved c =
    more_parts variable_places c.args.places.now.items c.loop-block.places.items c.push_all.new.places.items c.args.blocks.now c.loop-block.block-index c.block-item.result
    c.loop-block-test.true c.loop-block.invariant
    (c.in_ok-push_all.ensures ∙ ap (λ (l : List GroupSyn). c.loop-block.places.items ++ flat_map group_places l) c.as_slice.ensures
    ∙ ap (λ (b : QueryBlock). c.loop-block.places.items ++ variable_places b) c.block-item.is)
