use Rattle.std.proofs.Common.{false, ◌≡◌, take}
use Rattle.cq_transform.specs.Composing.{has_long}
use Rattle.cq_adjoint.specs.Moves.{each_generator}
use Rattle.cq_adjoint.specs.Spellable.{moved_spelling}
use Rattle.cq_adjoint.proofs.spelled.spelled_images.Given as goal

abbrev pub invariant-loop-number : goal.invariant-loop-number
invariant-loop-number l = record {
  made : l.images.items ≡ each_generator (moved_spelling l.mapping l.h l.from l.to) (take l.number l.generators);
  fits : has_long l.images.items ≡ false;
}
