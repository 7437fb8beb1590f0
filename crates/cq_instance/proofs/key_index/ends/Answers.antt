use Rattle.std.proofs.Common.{◌++◌, ◌∷◌, [], sym, ◌∙◌, arith}
use Rattle.std.proofs.lemmas.List.FromFn.{map-range_with_len_more}
use Rattle.cq_theory.specs.Tables.{row_from}
use Rattle.cq_instance.proofs.key_index.ends.Goals as goal

pub row_along-requires : goal.row_along-requires
row_along-requires c = c.requires c.loop-row.row c.loop-row-test.true

pub loop-row-preserved : goal.loop-row-preserved
loop-row-preserved c =
    c.in_ok-push.ensures.items ∙ (λ j. c.loop-row.invariant j ++ c.row_along.ensures.row j ∷ [])
    ∙ sym (map-range_with_len_more (λ r. row_from c.args.instance.now.tables r c.args.path.now) 0 c.loop-row.row c.loop-row.row (omega arith))
