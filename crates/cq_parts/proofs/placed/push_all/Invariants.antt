use Rattle.std.proofs.Common.{◌≡◌, ◌++◌, take}
use Rattle.std.specs.List.{flat_map}
use Rattle.cq_parts.proofs.placed.push_all.Given as goal

abbrev pub invariant-loop-group : goal.invariant-loop-group
invariant-loop-group g l = l.places.items ≡ l.initial.places.items ++ flat_map g.G.HasPlaces.places_of (take l.group-index l.groups)
