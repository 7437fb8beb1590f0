use Rattle.std.proofs.Common.{◌≡◌, ◌*◌, ◌≤◌, sum, take}
use Rattle.cq_run.proofs.summary.sum_of.Given as goal

-- the sum so far, which is small enough
abbrev pub invariant-loop-count : goal.invariant-loop-count
invariant-loop-count l = record { so_far : l.sum ≡ sum (take l.count-index l.counts); small : l.sum ≤ 4294967295 * l.count-index }
