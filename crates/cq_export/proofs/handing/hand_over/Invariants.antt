use Rattle.std.proofs.Common.{◌≡◌, ◌≤◌, ◌+◌, ◌-◌, length, vec_len, vec_capacity}
use Rattle.cq_export.specs.Held.{files_held}
use Rattle.cq_export.proofs.Hands.{ServesSome}
use Rattle.cq_export.proofs.handing.hand_over.Given as goal

abbrev pub invariant-loop-at : goal.invariant-loop-at
invariant-loop-at g l =
    ServesSome (files_held l.files) l.initial.exporters.items l.exporters.items l.initial.spoiled.items l.spoiled.items l.at (λ b. (goal.Exporter-dyn g (b.vtable, b.value)).account b.value)
    × (vec_len l.spoiled + vec_len l.exporters ≤ vec_capacity l.spoiled + l.at)
    × (l.spoiled_before ≡ vec_len l.initial.spoiled)

abbrev pub decreases-loop-at : goal.decreases-loop-at
decreases-loop-at g l = length l.exporters.items - l.at
