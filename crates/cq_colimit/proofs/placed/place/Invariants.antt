use Rattle.std.proofs.Common.{◌≡◌, ◌≤◌, ◌+◌, ◌++◌, drop, map}
use Rattle.cq_colimit.specs.Placing.{placed_from, placed}
use Rattle.cq_colimit.specs.Faults.{sizes_of}
use Rattle.cq_colimit.proofs.placed.place.Given as goal

abbrev pub invariant-loop-part : goal.invariant-loop-part
invariant-loop-part l =
    (l.start.part ≡ l.part-index)
    × (l.start.entity + l.start.key + l.start.attribute + sizes_of (map (λ part. part.1.value) (drop l.part-index l.parts)) ≤ 1000000)
    × (l.made.items ++ placed_from l.start (map (λ part. (part.0, part.1.value)) (drop l.part-index l.parts)) ≡ placed (map (λ part. (part.0, part.1.value)) l.parts))
