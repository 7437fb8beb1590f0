use Rattle.std.proofs.Common.{◌≡◌, drop, take, map}
use Rattle.cq_theory.specs.Declaring.{first_part_fault}
use Rattle.cq_colimit.specs.Placing.{part_names}
use Rattle.cq_colimit.specs.Faults.{name_fault, names_fault}
use Rattle.cq_colimit.proofs.placed.part_table.Given as goal

abbrev pub invariant-loop-part : goal.invariant-loop-part
invariant-loop-part l =
    (l.number ≡ l.part-index)
    × (l.table ≡ part_names (map (λ part. (part.0, part.1.value)) (take l.part-index l.parts)))
    × (first_part_fault (λ part. part.0) name_fault l.table l.number (map (λ part. (part.0, part.1.value)) (drop l.part-index l.parts)) ≡ names_fault (map (λ part. (part.0, part.1.value)) l.parts))
