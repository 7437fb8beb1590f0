use Rattle.std.proofs.Common.{ℕ, List, ◌++◌, map, take}
use Rattle.cq_csv.specs.Files.{entry_record}
use Rattle.cq_csv.specs.Records.{HasWritten}
use Rattle.cq_csv.proofs.algebra.write_entry_records.Given as goal

abbrev pub invariant-loop-entry : goal.invariant-loop-entry
invariant-loop-entry l =
    (before : List (List (List ℕ))) → HasWritten l.initial.writer before → HasWritten l.writer (before ++ map (entry_record l.typeside) (take l.entry-index l.entries))
