use Rattle.std.proofs.Common.{refl}
use Rattle.cq_flat.proofs.closing.Closing.enter_one.Goals as goal

pub returns : goal.returns
returns c = record {
  classes = refl;
  following = refl;
  uses = refl;
  stale = refl;
  entered = rw c.as_slice.ensures.value at c.in_ok-enter.ensures;
}
