use Rattle.std.proofs.Common.{◌≡◌, ◌++◌, map, take}
use Rattle.cq_parts.specs.Parts.{attribute_clause}
use Rattle.cq_parts.proofs.blocks.push_attributes.Given as goal

abbrev pub invariant-loop-bind : goal.invariant-loop-bind
invariant-loop-bind l = l.parts.items ≡ l.initial.parts.items ++ map (attribute_clause l.block) (take l.bind-index l.binds)
