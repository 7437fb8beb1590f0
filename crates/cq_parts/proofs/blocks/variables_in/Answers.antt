use Rattle.std.proofs.Common.{List, ◌++◌, ap, ◌∙◌}
use Rattle.std.specs.List.{flat_map}
use Rattle.cq_syntax.specs.declared.part.GroupSyn.{GroupSyn}
use Rattle.cq_parts.specs.Parts.{block_variables, variable_parts}
use Rattle.cq_parts.proofs.QueryCounts.{numbered_more}
use Rattle.cq_parts.proofs.blocks.variables_in.Goals as goal

pub loop-number-preserved : goal.loop-number-preserved
loop-number-preserved c =
    numbered_more block_variables c.args.blocks.now c.loop-number.number c.index-blocks-number.result c.loop-number.parts.items c.push_variables.new.parts.items c.loop-number-test.true c.index-blocks-number.is
    c.loop-number.invariant
    (c.in_ok-push_variables.ensures ∙ ap (λ (l : List GroupSyn). c.loop-number.parts.items ++ flat_map (variable_parts c.loop-number.number) l) c.as_slice.ensures)
