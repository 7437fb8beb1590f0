use Rattle.std.proofs.Common.{◌≡◌, ◌+◌, drop, take}
use Rattle.cq_theory.specs.Declaring.{first_part_fault}
use Rattle.cq_mapping.specs.MappingParts.{arrow_part_fault, arrows_fault, given_arrows}
use Rattle.cq_mapping.proofs.arrows.add_arrows.Given as goal

abbrev pub invariant-loop-part : goal.invariant-loop-part
invariant-loop-part l =
    (l.number ≡ l.first + l.part-index)
    × (l.table ≡ given_arrows (take l.part-index l.parts))
    × (first_part_fault (λ part. part.name) (arrow_part_fault l.source l.target l.entities) l.table l.number (drop l.part-index l.parts) ≡ arrows_fault l.source l.target l.entities l.first l.parts)
