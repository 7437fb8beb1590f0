use Rattle.std.proofs.Common.{◌≡◌, ℕ, ◌+◌, ◌-◌, length, get_or}
use Rattle.cq_flat.proofs.labels.write_place.Given as goal

abbrev pub invariant-loop-placed : goal.invariant-loop-placed
invariant-loop-placed l = record {
  same : (k : ℕ) → get_or l.placed.items k l.count ≡ get_or l.initial.placed.items k l.count;
}

abbrev pub decreases-loop-placed : goal.decreases-loop-placed
decreases-loop-placed l = l.class + 1 - length l.placed.items
