use Rattle.std.proofs.Common.{map, take}
use Rattle.cq_csv.specs.Files.{reference}
use Rattle.cq_csv.specs.Records.{AddsFields}
use Rattle.cq_csv.proofs.rows.push_references.Given as goal

abbrev pub invariant-loop-key : goal.invariant-loop-key
invariant-loop-key l = AddsFields l.initial.fields l.fields (map (reference l.instance l.row) (take l.key-index l.keys))
