use Rattle.std.proofs.Common.{ℕ, List, ◌++◌, map}
use Rattle.std.specs.Prelude.{slice_index}
use Rattle.cq_theory.specs.Canonical.{below}
use Rattle.cq_csv.specs.Files.{null_record}
use Rattle.cq_csv.specs.Records.{HasWritten}
use Rattle.cq_csv.proofs.algebra.write_null_records.Given as goal

abbrev pub invariant-loop-label : goal.invariant-loop-label
invariant-loop-label l =
    (before : List (List (List ℕ))) → HasWritten l.initial.writer before
    → HasWritten l.writer (before ++ map (λ label. null_record l.typeside label (slice_index l.sorts label)) (below l.label))
