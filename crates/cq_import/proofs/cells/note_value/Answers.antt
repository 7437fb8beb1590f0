use Rattle.std.proofs.Common.{Some, inr, sym, ap, ◌∙◌}
use Rattle.cq_import.specs.Cells.{trouble_fault}
use Rattle.cq_import.specs.Context.{shown_cell}
use Rattle.cq_import.proofs.Faulty.{refuses_same}
use Rattle.cq_import.proofs.cells.note_value.Goals as goal

pub returns-in-Some-Wrong-clause-refused : goal.returns-in-Some-Wrong-clause-refused
returns-in-Some-Wrong-clause-refused c =
    let bad = sym c.in_ok-note_labels.ensures.told ∙ c.in-Some-Wrong.is ∙ ap Some c.in-Some-Wrong.field-0-is in
    refuses_same _ _ _ (sym (ap (trouble_fault (shown_cell c.args.cell.now)) bad)) c.wrong.ensures

pub returns-in-Some-Full-clause-refused : goal.returns-in-Some-Full-clause-refused
returns-in-Some-Full-clause-refused c =
    let bad = sym c.in_ok-note_labels.ensures.told ∙ c.in-Some-Full.is ∙ ap Some c.in-Some-Full.field-0-is in
    inr (ap (trouble_fault (shown_cell c.args.cell.now)) bad)
