use Rattle.std.proofs.Common.{◌≡◌, ◌≤◌, map, take}
use Rattle.std.specs.Prelude.{sum}
use Rattle.cq_cells.specs.declared.index.Indexed.{Indexed}
use Rattle.cq_cells.proofs.index.find_total.Given as goal

abbrev pub invariant-loop-one : goal.invariant-loop-one
invariant-loop-one l = (l.total ≡ sum (take l.one-index (map (λ (i : Indexed). i.count) l.indexed))) × (l.total ≤ 16000000)
