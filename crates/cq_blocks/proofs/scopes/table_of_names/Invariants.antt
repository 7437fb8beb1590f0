use Rattle.std.proofs.Common.{◌≡◌, take}
use Rattle.cq_blocks.specs.Blocks.{names_of}
use Rattle.cq_blocks.proofs.scopes.table_of_names.Given as goal

abbrev pub invariant-loop-var : goal.invariant-loop-var
invariant-loop-var l = l.table ≡ names_of (take l.var-index l.vars)
