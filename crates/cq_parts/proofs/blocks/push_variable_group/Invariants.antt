use Rattle.std.proofs.Common.{◌≡◌, ◌++◌, map, take}
use Rattle.cq_parts.proofs.blocks.push_variable_group.Given as goal

abbrev pub invariant-loop-spot : goal.invariant-loop-spot
invariant-loop-spot l = l.parts.items ≡ l.initial.parts.items ++ map (λ spot. (l.block, spot.name, l.group.sort)) (take l.spot-index l.spot-items)
