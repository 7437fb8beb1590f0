use Rattle.std.proofs.Common.{◌≡◌, ℕ, ◌+◌, ◌-◌, [], length, get_or}
use Rattle.cq_flat.proofs.Vectors.{lists}
use Rattle.cq_flat.proofs.lists.Lists.extend_to.Given as goal

abbrev pub invariant-loop-self : goal.invariant-loop-self
invariant-loop-self l = record {
  same : (k : ℕ) → get_or (lists l.self-inside.lists.items) k [] ≡ get_or (lists l.initial.self-inside.lists.items) k [];
}

abbrev pub decreases-loop-self : goal.decreases-loop-self
decreases-loop-self l = l.at + 1 - length l.self-inside.lists.items
