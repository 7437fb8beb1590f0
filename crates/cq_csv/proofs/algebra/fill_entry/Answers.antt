use Rattle.cq_csv.proofs.Adds.{adds_then}
use Rattle.cq_csv.proofs.Written.{filled}
use Rattle.cq_csv.proofs.algebra.fill_entry.Goals as goal

pub returns : goal.returns
returns c =
    let empty = c.clear.new.self in
    filled empty c.push_value_field.new.fields _ c.clear.ensures.fields
    (adds_then empty c.push_application_field.new.fields c.push_value_field.new.fields _ _
    (adds_then empty c.push_field.new.fields c.push_application_field.new.fields _ _ c.in_ok-push_field.ensures c.in_ok-push_application_field.ensures) c.in_ok-push_value_field.ensures)
