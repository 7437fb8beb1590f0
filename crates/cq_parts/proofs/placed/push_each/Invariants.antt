use Rattle.std.proofs.Common.{◌≡◌, ◌++◌, map, take}
use Rattle.cq_parts.proofs.placed.push_each.Given as goal

abbrev pub invariant-loop-part : goal.invariant-loop-part
invariant-loop-part g l = l.places.items ≡ l.initial.places.items ++ map g.P.HasPlace.place_of (take l.part-index l.parts)
