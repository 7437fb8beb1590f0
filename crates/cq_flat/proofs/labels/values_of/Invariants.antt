use Rattle.cq_flat.specs.Constants.{constants_at}
use Rattle.cq_flat.proofs.Valuing.{IsValuing}
use Rattle.cq_flat.proofs.labels.values_of.Given as goal

abbrev pub invariant-loop-node : goal.invariant-loop-node
invariant-loop-node l = IsValuing l.classes (constants_at l.nodes l.least) l.node l.placed.items l.nulls.items l.values.places.items l.values.different.items
