use Rattle.cq_csv.proofs.Adds.{adds_then}
use Rattle.cq_csv.proofs.Written.{filled}
use Rattle.cq_csv.proofs.algebra.mark.Goals as goal

pub returns : goal.returns
returns c =
    let empty = c.new-fields.result in
    filled empty c.push_field-3.new.fields _ c.new-fields.ensures.fields
    (adds_then empty c.push_field-2.new.fields c.push_field-3.new.fields _ _
    (adds_then empty c.push_field.new.fields c.push_field-2.new.fields _ _ c.in_ok-push_field.ensures c.in_ok-push_field-2.ensures) c.in_ok-push_field-3.ensures)
