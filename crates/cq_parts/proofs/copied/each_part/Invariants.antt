use Rattle.std.proofs.Common.{◌≡◌, map, take}
use Rattle.cq_parts.proofs.copied.each_part.Given as goal

abbrev pub invariant-loop-item : goal.invariant-loop-item
invariant-loop-item g l = l.parts.items ≡ map g.P.HasPart.part_of (take l.item-index l.items)
