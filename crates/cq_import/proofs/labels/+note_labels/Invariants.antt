use Rattle.std.proofs.Common.{◌≡◌, map}
use Rattle.cq_import.specs.Labels.{uses_in, uses_args}
use Rattle.cq_import.proofs.Uses.{AreNoted, left}
use Rattle.cq_import.proofs.labels.+note_labels.Given as goal

abbrev pub decreases-note_labels : goal.decreases-note_labels
decreases-note_labels l = goal.size-note_labels l

abbrev pub invariant-loop-place : goal.invariant-loop-place
invariant-loop-place l =
    AreNoted l.room l.initial.labels l.labels (uses_args (map (uses_in l.typeside) l.arg-items) l.types) (left (map (uses_in l.typeside) l.arg-items) l.types l.place)
