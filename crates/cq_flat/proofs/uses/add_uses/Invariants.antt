use Rattle.std.proofs.Common.{take}
use Rattle.cq_flat.specs.Closing.{AddsUses}
use Rattle.cq_flat.proofs.uses.add_uses.Given as goal

abbrev pub invariant-loop-arg : goal.invariant-loop-arg
invariant-loop-arg l = AddsUses l.initial.uses l.uses l.node (take l.arg-index l.args)
