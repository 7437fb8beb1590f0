use Rattle.std.proofs.Common.{◌≡◌, ◌+◌, drop, map}
use Rattle.cq_colimit.specs.Faults.{sizes_of}
use Rattle.cq_colimit.proofs.placed.room_after_parts.Given as goal

abbrev pub invariant-loop-part : goal.invariant-loop-part
invariant-loop-part l = l.room + sizes_of (map (λ part. part.1.value) l.parts) ≡ 1000000 + sizes_of (map (λ part. part.1.value) (drop l.part-index l.parts))
