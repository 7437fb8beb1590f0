use Rattle.std.proofs.Common.{◌≡◌, take, map}
use Rattle.cq_mapping.specs.Images.{type_image}
use Rattle.cq_mapping.proofs.images.+make_image.Given as goal

abbrev pub decreases-make_image : goal.decreases-make_image
decreases-make_image l = goal.size-make_image l

abbrev pub invariant-loop-arg : goal.invariant-loop-arg
invariant-loop-arg l = l.made.items ≡ map (type_image l.mapping) (take l.arg-index l.arg-items)
