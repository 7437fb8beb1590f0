use Rattle.std.proofs.Common.{ℕ, ◌≡◌, ◌<◌, length}
use Rattle.cq_colimit.specs.Forest.{IsDown, IsForest}
use Rattle.cq_colimit.proofs.classes.find_first.Given as goal

abbrev pub invariant-loop-parents : goal.invariant-loop-parents
invariant-loop-parents l =
    (length l.parents ≡ length l.initial.parents) × (l.here < length l.parents) × IsDown l.parents
    × ((first : ℕ → ℕ) → IsForest first l.initial.parents → IsForest first l.parents × (first l.here ≡ first l.entity))

abbrev pub decreases-loop-parents : goal.decreases-loop-parents
decreases-loop-parents l = l.here
