use Rattle.std.proofs.Common.{take}
use Rattle.cq_csv.specs.Files.{names_of}
use Rattle.cq_csv.specs.Records.{AddsFields}
use Rattle.cq_csv.proofs.rows.push_names.Given as goal

abbrev pub invariant-loop-number : goal.invariant-loop-number
invariant-loop-number l = AddsFields l.initial.fields l.fields (names_of l.edges (take l.number-index l.numbers))
