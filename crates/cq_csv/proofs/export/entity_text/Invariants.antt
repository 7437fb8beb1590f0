use Rattle.std.proofs.Common.{◌∷◌, map}
use Rattle.cq_theory.specs.Canonical.{below}
use Rattle.cq_csv.specs.Files.{header, row_record}
use Rattle.cq_csv.specs.Records.{HasWritten}
use Rattle.cq_csv.proofs.export.entity_text.Given as goal

abbrev pub invariant-loop-row : goal.invariant-loop-row
invariant-loop-row l = HasWritten l.writer (header l.instance l.attributes l.keys ∷ map (row_record l.instance l.attributes l.keys) (below l.row))
