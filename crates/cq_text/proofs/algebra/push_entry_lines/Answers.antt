use Rattle.std.proofs.Common.{◌++◌, ap, ◌∙◌}
use Rattle.cq_text.specs.Transcript.{entry_line}
use Rattle.cq_text.proofs.Belows.{flat_map-take_more}
use Rattle.cq_text.proofs.algebra.push_entry_lines.Goals as goal

pub loop-entry-preserved : goal.loop-entry-preserved
loop-entry-preserved c =
    let text = entry_line c.args.typeside.now in
    flat_map-take_more text c.args.text.now.items c.loop-entry.text.items c.push_entry_line.new.text.items c.args.entries.now c.loop-entry.entry-index c.entry-item.result c.loop-entry-test.true
    c.loop-entry.invariant (c.in_ok-push_entry_line.ensures ∙ ap (λ e. c.loop-entry.text.items ++ text e) c.entry-item.is)
