use Rattle.std.proofs.Common.{◌≡◌, map, take}
use Rattle.cq_theory.specs.Canonical.{below}
use Rattle.cq_theory.specs.Groups.{positions, place_of}
use Rattle.cq_theory.proofs.groups.Groups.new.Given as goal

abbrev pub invariant-loop-number : goal.invariant-loop-number
invariant-loop-number l =
    (map (λ group. group.items) l.groups.items ≡ map (positions (take l.number l.owners)) (below l.count))
    × (l.places.items ≡ map (place_of l.owners) (below l.number))
