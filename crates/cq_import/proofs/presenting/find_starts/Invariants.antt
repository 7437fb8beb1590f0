use Rattle.std.proofs.Common.{◌≡◌, ◌≤◌, map, take}
use Rattle.std.specs.Prelude.{sum}
use Rattle.cq_theory.specs.Canonical.{below}
use Rattle.cq_import.specs.Cells.{counts, start_of}
use Rattle.cq_import.specs.Context.{sheet_in}
use Rattle.cq_import.proofs.presenting.find_starts.Given as goal

abbrev pub invariant-loop-file : goal.invariant-loop-file
invariant-loop-file l =
    (l.starts.items ≡ map (start_of (map sheet_in l.files)) (below l.file-index))
    × (l.total ≡ sum (take l.file-index (counts (map sheet_in l.files))))
    × (l.total ≤ 16000000)
