use Rattle.std.proofs.Common.{◌≡◌, drop}
use Rattle.csv.specs.Records.{fields_of}
use Rattle.cq_import.specs.Rows.{same_record}
use Rattle.cq_import.proofs.records.is_same.Given as goal

abbrev pub invariant-loop-column : goal.invariant-loop-column
invariant-loop-column l = same_record (fields_of l.fields) l.wanted ≡ same_record (drop l.column (fields_of l.fields)) (drop l.column l.wanted)
