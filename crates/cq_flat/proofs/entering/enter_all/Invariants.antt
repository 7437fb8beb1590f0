use Rattle.std.proofs.Common.{take, slice_index}
use Rattle.cq_flat.specs.Partition.{Has}
use Rattle.cq_flat.specs.Closing.{Enters}
use Rattle.cq_flat.proofs.entering.enter_all.Given as goal

abbrev pub invariant-loop-node : goal.invariant-loop-node
invariant-loop-node l = Enters l.nodes (slice_index l.classes) (Has (take l.node-index l.entered)) l.initial.table l.table l.initial.pending.items l.pending.items
