use Rattle.std.proofs.Common.{ℕ, List, ◌≤◌, length}
use Rattle.cq_growth.specs.Repeats.{IsTwice}
use Rattle.cq_growth.proofs.repeats.repeated_keys.Given as goal

abbrev pub invariant-loop-count : goal.invariant-loop-count
invariant-loop-count l = (other : List ℕ) → IsTwice l.path other → l.count ≤ length other
