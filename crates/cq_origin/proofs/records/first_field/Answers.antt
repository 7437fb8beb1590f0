use Rattle.std.proofs.Common.{sym}
use Rattle.csv.proofs.RecordFacts.{field-get}
use Rattle.cq_import.proofs.Fields.{field_past}
use Rattle.cq_origin.proofs.records.first_field.Goals as goal

pub returns-in-Some : goal.returns-in-Some
returns-in-Some c = sym (field-get _ _ _ (sym c.in-Some.ensures.value))

pub returns-in-None : goal.returns-in-None
returns-in-None c = sym (field_past _ _ (sym c.in-None.ensures.value))
