-- A choice of format.
use Rattle.std.specs.Prelude.{Bool, true, false, List, Some, None, filter}
use Rattle.std.specs.declared.option.Option.{Option}
use Rattle.cq_io.specs.Account.{Account}
use Rattle.cq_io.specs.declared.format.Format.{Format}
use Rattle.cq_io.specs.declared.format.Format.TheVariants.{Csv, Cql}

abbrev pub same_format : Format → Format → Bool
same_format Csv Csv = true
same_format Csv Cql = false
same_format Cql Csv = false
same_format Cql Cql = true

-- the exporter is one of this format
abbrev pub is_of : Format → Account → Bool
is_of format exporter = same_format format exporter.format

-- the exporters that the choice keeps, in their order: those of the format that is chosen, and all where none is
abbrev pub kept_by : Option Format → List Account → List Account
kept_by None exporters = exporters
kept_by (Some format) exporters = filter (is_of format) exporters
