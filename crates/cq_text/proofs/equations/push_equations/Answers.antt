use Rattle.std.proofs.Common.{◌++◌, ap, sym, ◌∙◌}
use Rattle.cq_text.proofs.EquationLines.{equations_lines}
use Rattle.cq_text.proofs.Plans.{two_parts}
use Rattle.cq_text.proofs.equations.push_equations.Goals as goal

pub returns : goal.returns
returns c =
    let i = c.args.instance.now in
    two_parts c.args.text.now.items c.push_row_equations.new.text.items c.push_entries.new.text.items _ _ c.in_ok-push_row_equations.ensures c.in_ok-push_entries.ensures
    ∙ ap (λ l. c.args.text.now.items ++ l) (sym (equations_lines i.schema i.tables))
