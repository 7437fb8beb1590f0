use Rattle.std.proofs.Common.{◌++◌, ◌∷◌, [], sym, ◌∙◌}
use Rattle.cq_theory.specs.Tables.{row_from}
use Rattle.cq_move.proofs.Tests.{map_below_more}
use Rattle.cq_move.proofs.columns.row_column.Goals as goal

pub row_along-requires : goal.row_along-requires
row_along-requires c = (c.requires.0, c.requires.1 c.loop-row.row c.loop-row-test.true)

pub loop-row-preserved : goal.loop-row-preserved
loop-row-preserved c =
    c.in_ok-push.ensures.items ∙ (λ j. c.loop-row.invariant j ++ c.row_along.ensures.row j ∷ [])
    ∙ sym (map_below_more (λ r. row_from c.args.instance.now.tables r c.args.path.now) c.loop-row.row)
