use Rattle.std.proofs.Common.{◌≡◌, drop, take}
use Rattle.cq_theory.specs.Declaring.{first_part_fault}
use Rattle.cq_theory.specs.TypesideParts.{type_fault, types_fault}
use Rattle.cq_theory.proofs.lookup.typeside_parts.add_types.Given as goal

abbrev pub invariant-loop-name : goal.invariant-loop-name
invariant-loop-name l =
    (l.part ≡ l.name-index)
    × (l.table ≡ take l.name-index l.parts)
    × (first_part_fault (λ name. name) type_fault l.table l.part (drop l.name-index l.parts) ≡ types_fault l.parts)
