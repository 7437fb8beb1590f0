use Rattle.std.proofs.Common.{◌≡◌, drop, take}
use Rattle.cq_theory.specs.Declaring.{first_part_fault}
use Rattle.cq_transform.specs.Images.{image_fault, parts_fault, given}
use Rattle.cq_transform.proofs.images.add_images.Given as goal

abbrev pub invariant-loop-part : goal.invariant-loop-part
invariant-loop-part l =
    (l.number ≡ l.part-index)
    × (l.table ≡ given (take l.part-index l.parts))
    × (first_part_fault (λ part. part.0) (image_fault l.schema l.from l.to) l.table l.number (drop l.part-index l.parts) ≡ parts_fault l.schema l.from l.to l.parts)
