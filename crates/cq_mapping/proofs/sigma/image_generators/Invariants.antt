use Rattle.std.proofs.Common.{◌≡◌, take}
use Rattle.cq_mapping.specs.Images.{generator_images}
use Rattle.cq_mapping.proofs.sigma.image_generators.Given as goal

abbrev pub invariant-loop-generator : goal.invariant-loop-generator
invariant-loop-generator l = l.made.items ≡ generator_images l.mapping (take l.generator-index l.generators)
