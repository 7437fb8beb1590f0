use Rattle.std.proofs.Common.{◌≡◌}
use Rattle.std.specs.List.{range_with_len}
use Rattle.cq_flat.proofs.classes.singletons.Given as goal

abbrev pub invariant-loop-node : goal.invariant-loop-node
invariant-loop-node l = record {
  classes : l.classes.items ≡ range_with_len 0 l.node;
  following : l.following.items ≡ range_with_len 0 l.node;
}
