use Rattle.std.proofs.Common.{length, ap, ◌∙◌}
use Rattle.std.proofs.lemmas.List.FromFn.{length-map-range_with_len}
use Rattle.cq_theory.specs.Tables.{row_from}
use Rattle.cq_instance.proofs.key_index.KeyIndex.along.Goals as goal

pub lists_of-requires-clause-rows : goal.lists_of-requires-clause-rows
lists_of-requires-clause-rows c =
    ap length (c.as_slice-column.ensures.value ∙ c.in_ok-ends.ensures) ∙ length-map-range_with_len (λ row. row_from c.args.instance.now.tables row c.args.path.now) 0 c.args.count
