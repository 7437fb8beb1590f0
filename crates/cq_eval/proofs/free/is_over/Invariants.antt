use Rattle.std.proofs.Common.{◌≤◌, ◌*◌, drop}
use Rattle.cq_eval.specs.Join.{combinations}
use Rattle.cq_eval.proofs.free.is_over.Given as goal

abbrev pub invariant-loop-place : goal.invariant-loop-place
invariant-loop-place l = l.choices * combinations (drop l.place l.counts) ≤ combinations (drop l.bound l.counts)
