use Rattle.std.proofs.Common.{◌++◌, ap, ◌∙◌}
use Rattle.cq_text.specs.Spelling.{entry_equation_line}
use Rattle.cq_text.proofs.Belows.{flat_map-take_more}
use Rattle.cq_text.proofs.equations.push_entry_equations.Goals as goal

pub loop-entry-preserved : goal.loop-entry-preserved
loop-entry-preserved c =
    let text = entry_equation_line c.args.typeside.now c.args.first_null in
    flat_map-take_more text c.args.text.now.items c.loop-entry.text.items c.push_entry_equation.new.text.items c.args.entries.now c.loop-entry.entry-index c.entry-item.result c.loop-entry-test.true
    c.loop-entry.invariant (c.in_ok-push_entry_equation.ensures ∙ ap (λ e. c.loop-entry.text.items ++ text e) c.entry-item.is)
