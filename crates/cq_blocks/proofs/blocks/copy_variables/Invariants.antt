use Rattle.std.proofs.Common.{◌≡◌, take}
use Rattle.cq_blocks.proofs.blocks.copy_variables.Given as goal

abbrev pub invariant-loop-var : goal.invariant-loop-var
invariant-loop-var l = l.made.items ≡ take l.var-index l.vars
