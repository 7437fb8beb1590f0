use Rattle.std.proofs.Common.{◌<◌, length}
use Rattle.cq_flat.proofs.classes.is_shorter.Given as goal

abbrev pub invariant-loop-i : goal.invariant-loop-i
invariant-loop-i l = record {
  first : l.first < length l.following;
  second : l.second < length l.following;
}
