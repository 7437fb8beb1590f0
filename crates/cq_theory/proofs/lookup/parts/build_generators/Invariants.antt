use Rattle.std.proofs.Common.{◌≡◌, take, map}
use Rattle.cq_theory.specs.Resolve.{sort_named}
use Rattle.cq_theory.specs.Parts.{sort_or_first}
use Rattle.cq_theory.proofs.lookup.parts.build_generators.Given as goal

abbrev pub invariant-loop-generator : goal.invariant-loop-generator
invariant-loop-generator l = l.made.items ≡ map (λ part. (part.0, sort_or_first (sort_named l.schema part.1))) (take l.generator-index l.generators)
