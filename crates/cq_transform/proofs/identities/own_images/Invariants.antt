use Rattle.std.proofs.Common.{◌≡◌, take}
use Rattle.cq_transform.specs.Identities.{identity_images}
use Rattle.cq_transform.proofs.identities.own_images.Given as goal

abbrev pub invariant-loop-number : goal.invariant-loop-number
invariant-loop-number l = l.images.items ≡ identity_images (take l.number l.generators)
