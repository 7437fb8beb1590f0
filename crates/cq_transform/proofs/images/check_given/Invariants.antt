use Rattle.std.proofs.Common.{◌≡◌, [], drop, length}
use Rattle.cq_transform.specs.Images.{first_missing, names_of}
use Rattle.cq_transform.proofs.images.check_given.Given as goal

abbrev pub invariant-loop-generator : goal.invariant-loop-generator
invariant-loop-generator l = record {
  count : length l.earlier ≡ l.generator-index;
  rest : first_missing l.given l.earlier (names_of (drop l.generator-index l.generators)) ≡ first_missing l.given [] (names_of l.generators);
}
