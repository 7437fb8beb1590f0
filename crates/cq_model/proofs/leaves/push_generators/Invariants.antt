use Rattle.std.proofs.Common.{take}
use Rattle.cq_model.specs.LeafPlaces.{AddsGenerators}
use Rattle.cq_model.proofs.leaves.push_generators.Given as goal

abbrev pub invariant-loop-generator : goal.invariant-loop-generator
invariant-loop-generator l = AddsGenerators l.initial.list l.list (take l.generator-index l.generators) l.places.items
