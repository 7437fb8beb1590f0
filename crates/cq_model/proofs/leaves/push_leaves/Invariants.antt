use Rattle.std.proofs.Common.{take}
use Rattle.cq_model.specs.LeafPlaces.{AddsLeaves}
use Rattle.cq_model.proofs.leaves.push_leaves.Given as goal

abbrev pub invariant-loop-kind : goal.invariant-loop-kind
invariant-loop-kind l = AddsLeaves l.initial.list l.list (take l.kind-index l.types)
