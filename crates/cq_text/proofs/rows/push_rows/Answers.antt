use Rattle.std.proofs.Common.{◌++◌, ap, ◌∙◌}
use Rattle.cq_text.specs.Transcript.{row_line}
use Rattle.cq_text.proofs.Belows.{flat_map-below_more}
use Rattle.cq_text.proofs.rows.push_rows.Goals as goal

pub loop-row-preserved : goal.loop-row-preserved
loop-row-preserved c =
    let text = row_line c.args.instance.now c.args.entity in
    (rw c.make_room.ensures at c.in_ok-push_row.ensures) ∙ ap (λ l. l ++ text c.loop-row.row) c.loop-row.invariant ∙ flat_map-below_more text c.args.text.now.items c.loop-row.row
