use Rattle.std.proofs.Common.{◌≡◌, take}
use Rattle.std.specs.List.{flat_map}
use Rattle.cq_parts.proofs.copied.parts_of_all.Given as goal

abbrev pub invariant-loop-group : goal.invariant-loop-group
invariant-loop-group g l = l.parts.items ≡ flat_map g.G.HasParts.parts_of (take l.group-index l.groups)
