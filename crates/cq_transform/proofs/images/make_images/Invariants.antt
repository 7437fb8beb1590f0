use Rattle.std.proofs.Common.{◌≡◌, map, take}
use Rattle.cq_theory.specs.Sorts.{Generators}
use Rattle.cq_scope.specs.Firsts.{AreFirstsOf}
use Rattle.cq_transform.specs.Images.{image_named, names_of, scope_of}
use Rattle.cq_transform.proofs.images.make_images.Given as goal

abbrev pub invariant-loop-generator : goal.invariant-loop-generator
invariant-loop-generator l =
    (H : Generators) → AreFirstsOf H l.to
    → l.images.items ≡ map (image_named l.schema (scope_of H) l.given l.parts) (names_of (take l.generator-index l.generators))
