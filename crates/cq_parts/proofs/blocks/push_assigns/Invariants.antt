use Rattle.std.proofs.Common.{◌≡◌, ◌++◌, map, take}
use Rattle.cq_parts.specs.Parts.{assign_clause}
use Rattle.cq_parts.proofs.blocks.push_assigns.Given as goal

abbrev pub invariant-loop-bind : goal.invariant-loop-bind
invariant-loop-bind l = l.parts.items ≡ l.initial.parts.items ++ map (assign_clause l.block l.key) (take l.bind-index l.binds)
