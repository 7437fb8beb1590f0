use Rattle.std.proofs.Common.{[], ◌∷◌, ◌+◌, subst}
use Rattle.std.specs.Prelude.{decimal}
use Rattle.cq_csv.specs.Records.{AddsFields}
use Rattle.cq_csv.proofs.Adds.{adds_then}
use Rattle.cq_csv.proofs.rows.push_row.Goals as goal

pub returns : goal.returns
returns c =
    let number = subst (λ n. AddsFields c.args.fields.now c.push_number_field.new.fields (decimal (n + 1) ∷ [])) c.from.ensures c.in_ok-push_number_field.ensures in
    adds_then c.args.fields.now c.push_cells.new.fields c.push_references.new.fields _ _
    (adds_then c.args.fields.now c.push_number_field.new.fields c.push_cells.new.fields _ _ number c.in_ok-push_cells.ensures) c.in_ok-push_references.ensures
