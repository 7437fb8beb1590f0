use Rattle.std.proofs.Common.{◌≡◌, map, take, slice_index}
use Rattle.cq_model.proofs.reading.types_of_nodes.Given as goal

abbrev pub invariant-loop-node : goal.invariant-loop-node
invariant-loop-node l = l.found.items ≡ map (slice_index l.types) (take l.node-index l.nodes)
