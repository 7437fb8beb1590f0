use Rattle.std.proofs.Common.{◌≡◌, take}
use Rattle.cq_witness.specs.Images.{parts_as_generators}
use Rattle.cq_witness.proofs.images.named_parts.Given as goal

abbrev pub invariant-loop-part : goal.invariant-loop-part
invariant-loop-part l = l.made.items ≡ parts_as_generators (take l.part-index l.parts)
