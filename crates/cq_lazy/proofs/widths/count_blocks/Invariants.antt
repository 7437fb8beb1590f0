use Rattle.std.proofs.Common.{◌≡◌, map, take, length}
use Rattle.cq_lazy.specs.Widths.{capped}
use Rattle.cq_lazy.proofs.widths.count_blocks.Given as goal

abbrev pub invariant-loop-block : goal.invariant-loop-block
invariant-loop-block l = l.made.items ≡ map (λ b. capped (length b.vars)) (take l.block-index l.blocks)
