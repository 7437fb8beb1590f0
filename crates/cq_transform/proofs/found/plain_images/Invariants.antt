use Rattle.std.proofs.Common.{◌≡◌, take, map}
use Rattle.cq_transform.specs.Nulls.{plain_image}
use Rattle.cq_transform.proofs.found.plain_images.Given as goal

abbrev pub invariant-loop-value : goal.invariant-loop-value
invariant-loop-value l = l.images.items ≡ map (plain_image l.found) (take l.value-index l.values)
