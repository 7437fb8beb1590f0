use Rattle.std.proofs.Common.{false, ◌≡◌, map, take}
use Rattle.cq_transform.specs.Composing.{has_long}
use Rattle.cq_adjoint.specs.Moves.{image_along}
use Rattle.cq_adjoint.proofs.along.images_along.Given as goal

abbrev pub invariant-loop-image : goal.invariant-loop-image
invariant-loop-image l = record {
  made : l.made.items ≡ map (image_along l.mapping) (take l.image-index l.images);
  fits : has_long l.made.items ≡ false;
}
