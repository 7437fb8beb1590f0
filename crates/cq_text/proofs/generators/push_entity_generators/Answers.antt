use Rattle.std.proofs.Common.{◌++◌, ap, ◌∙◌}
use Rattle.cq_text.specs.Spelling.{row_generator_line}
use Rattle.cq_text.proofs.Belows.{flat_map-below_more}
use Rattle.cq_text.proofs.generators.push_entity_generators.Goals as goal

pub loop-row-preserved : goal.loop-row-preserved
loop-row-preserved c =
    let text = row_generator_line c.args.instance.now.schema c.args.instance.now.tables c.args.entity in
    c.in_ok-push_row_generator.ensures ∙ ap (λ l. l ++ text c.loop-row.row) c.loop-row.invariant ∙ flat_map-below_more text c.args.text.now.items c.loop-row.row
