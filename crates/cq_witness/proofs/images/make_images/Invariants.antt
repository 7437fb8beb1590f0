use Rattle.std.proofs.Common.{◌≡◌, map, take}
use Rattle.cq_theory.specs.Sorts.{Generators}
use Rattle.cq_scope.specs.Firsts.{AreFirstsOf}
use Rattle.cq_transform.specs.Images.{given, image_named, names_of, scope_of}
use Rattle.cq_witness.proofs.images.make_images.Given as goal

abbrev pub invariant-loop-generator : goal.invariant-loop-generator
invariant-loop-generator l =
    (H : Generators) → AreFirstsOf H l.giving.to.now
    → l.images.items ≡ map (image_named l.giving.schema.now (scope_of H) (given l.giving.parts.now) l.giving.parts.now) (names_of (take l.generator-index l.generators))
