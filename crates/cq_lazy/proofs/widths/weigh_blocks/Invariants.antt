use Rattle.std.proofs.Common.{◌≡◌, map, take}
use Rattle.cq_lazy.specs.Widths.{weight_of}
use Rattle.cq_lazy.proofs.widths.weigh_blocks.Given as goal

abbrev pub invariant-loop-block : goal.invariant-loop-block
invariant-loop-block l = l.made.items ≡ map (λ b. weight_of l.weights b.vars) (take l.block-index l.blocks)
