use Rattle.std.proofs.Common.{◌≡◌, map, take}
use Rattle.cq_instance.specs.Standing.{meaning}
use Rattle.cq_transform.specs.Transforms.{meanings_in}
use Rattle.cq_transform.proofs.meant.standings.Given as goal

abbrev pub invariant-loop-image : goal.invariant-loop-image
invariant-loop-image l = map meaning l.standings.items ≡ meanings_in l.target (take l.image-index l.images)
