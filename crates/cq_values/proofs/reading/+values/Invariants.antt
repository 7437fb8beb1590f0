use Rattle.std.proofs.Common.{◌≡◌, ◌+◌, ◌*◌, drop}
use Rattle.cq_values.specs.Reading as reading
use Rattle.cq_values.proofs.reading.+values.Given as goal

abbrev pub decreases-value : goal.decreases-value
decreases-value l = 5 * l.levels

abbrev pub decreases-word : goal.decreases-word
decreases-word l = 5 * l.levels + 4

abbrev pub decreases-application : goal.decreases-application
decreases-application l = 5 * l.levels + 3

abbrev pub decreases-arguments : goal.decreases-arguments
decreases-arguments l = 5 * l.levels + 2

abbrev pub decreases-others : goal.decreases-others
decreases-others l = 5 * l.levels + 1

abbrev pub invariant-others-loop-sort : goal.invariant-others-loop-sort
invariant-others-loop-sort l =
    let read = reading.value_at l.typeside l.levels in
    reading.behind l.initial.args.items (reading.others read l.sorts l.fn.bytes) ≡ reading.behind l.args.items (reading.others read (drop l.sort-index l.sorts) l.rest)
