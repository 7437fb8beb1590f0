use Rattle.std.proofs.Common.{map, take}
use Rattle.cq_csv.specs.Files.{cell}
use Rattle.cq_csv.specs.Records.{AddsFields}
use Rattle.cq_csv.proofs.rows.push_cells.Given as goal

abbrev pub invariant-loop-attribute : goal.invariant-loop-attribute
invariant-loop-attribute l = AddsFields l.initial.fields l.fields (map (cell l.instance l.row) (take l.attribute-index l.attributes))
