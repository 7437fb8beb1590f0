use Rattle.std.proofs.Common.{List, ℕ, ◌∙◌, sym, ap, get_or}
use Rattle.std.specs.Prelude.{is_some}
use Rattle.std.specs.Map.{lookup}
use Rattle.cq_base.specs.Names.{same_name}
use Rattle.cq_cells.specs.declared.index.Indexed.{Indexed}
use Rattle.cq_cells.proofs.Sheeting.{row_found}
use Rattle.cq_cells.proofs.cells.has_record.Goals as goal

pub returns : goal.returns
returns c = λ name.
    let over = c.args.over.now in
    let one = c.index-over-target.result in
    c.is_some.ensures
    ∙ ap is_some
    (c.find.ensures ∙ ap (λ (x : List ℕ). lookup (same_name x) (get_or over.indexed.now c.args.target one).places) c.in_ok-id.ensures
    ∙ ap (λ (i : Indexed). lookup (same_name c.args.id.now) i.places) (sym c.index-over-target.is)
    ∙ row_found name over.schema.now over.readings.now over.indexed.now c.requires.over.readings c.requires.over.indexed c.args.target one c.args.id.now c.requires.target c.index-over-target.is)
