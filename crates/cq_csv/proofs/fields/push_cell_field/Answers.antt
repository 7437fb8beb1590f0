use Rattle.std.proofs.Common.{[], ◌∷◌, sym, subst}
use Rattle.cq_csv.specs.Records.{AddsFields}
use Rattle.cq_csv.proofs.Cells.{cell_field-built}
use Rattle.cq_csv.proofs.fields.push_cell_field.Goals as goal

pub returns-in_ok-push_built_field-in-Fun : goal.returns-in_ok-push_built_field-in-Fun
returns-in_ok-push_built_field-in-Fun c = subst (λ f. AddsFields c.args.fields.now c.push_built_field.new.fields (f ∷ [])) (sym (cell_field-built c.args.typeside.now c.args.value.now _ _ c.in-Fun.is)) c.in_ok-push_built_field-in-Fun.ensures
