use Rattle.std.proofs.Common.{◌≡◌, take}
use Rattle.cq_import.specs.Columns.{header_with}
use Rattle.cq_import.proofs.columns.header.Given as goal

abbrev pub invariant-loop-column : goal.invariant-loop-column
invariant-loop-column l = l.names.items ≡ header_with l.schema (take l.column-index l.columns)
