use Rattle.std.proofs.Common.{◌≡◌, take}
use Rattle.cq_blocks.specs.Blocks.{sorts_of}
use Rattle.cq_blocks.proofs.scopes.build_sorts.Given as goal

abbrev pub invariant-loop-var : goal.invariant-loop-var
invariant-loop-var l = l.sorts.items ≡ sorts_of (take l.var-index l.vars)
