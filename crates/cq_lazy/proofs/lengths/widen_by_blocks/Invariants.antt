use Rattle.std.proofs.Common.{take}
use Rattle.std.specs.Prelude.{All}
use Rattle.cq_lazy.specs.Lengths.{AreWider, IsShortBlock}
use Rattle.cq_lazy.proofs.lengths.widen_by_blocks.Given as goal

abbrev pub invariant-loop-block : goal.invariant-loop-block
invariant-loop-block l = AreWider l.fn.found l.wide × All (IsShortBlock l.under l.wide) (take l.block-index l.blocks)
