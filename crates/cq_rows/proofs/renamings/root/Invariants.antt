use Rattle.std.proofs.Common.{◌≡◌, ◌<◌, ℕ, length}
use Rattle.cq_rows.specs.Forest.{root_of, IsForest}
use Rattle.cq_rows.proofs.renamings.root.Given as goal

abbrev pub invariant-loop-parent : goal.invariant-loop-parent
invariant-loop-parent l = record {
  forest : IsForest l.parent;
  below : l.at < length l.parent;
  root : root_of l.initial.parent l.at ≡ root_of l.initial.parent l.row;
  roots : (r : ℕ) → r < length l.initial.parent → root_of l.parent r ≡ root_of l.initial.parent r;
}

abbrev pub decreases-loop-parent : goal.decreases-loop-parent
decreases-loop-parent l = l.at
