use Rattle.std.proofs.Common.{◌≡◌, ◌++◌, map, take}
use Rattle.cq_parts.proofs.copied.push_held.Given as goal

abbrev pub invariant-loop-item : goal.invariant-loop-item
invariant-loop-item g l = l.parts.items ≡ l.initial.parts.items ++ map (g.H.Holds.part_for l.holder) (take l.item-index l.items)
