use Rattle.std.proofs.Common.{◌-◌, length}
use Rattle.cq_run.specs.Choice.{is_of}
use Rattle.cq_run.proofs.Kept.{KeptSoFar}
use Rattle.cq_run.proofs.choice.keep_only.Given as goal

abbrev pub invariant-loop-at : goal.invariant-loop-at
invariant-loop-at g l =
    KeptSoFar l.initial.exporters.items l.exporters.items l.at (is_of l.format) (λ b. (goal.Exporter-dyn g (b.vtable, b.value)).account b.value)

abbrev pub decreases-loop-at : goal.decreases-loop-at
decreases-loop-at g l = length l.exporters.items - l.at
