use Rattle.std.proofs.Common.{◌≡◌, ◌+◌, drop, take, map}
use Rattle.cq_theory.specs.Declaring.{first_part_fault}
use Rattle.cq_theory.specs.TypesideParts.{constant_fault, constants_fault, made_constant}
use Rattle.cq_theory.proofs.lookup.typeside_parts.add_constants.Given as goal

abbrev pub invariant-loop-constant : goal.invariant-loop-constant
invariant-loop-constant l =
    (l.part ≡ l.first + l.constant-index)
    × (l.table ≡ map (λ part. part.0) (take l.constant-index l.parts))
    × (l.constants.items ≡ map (made_constant l.types) (take l.constant-index l.parts))
    × (first_part_fault (λ part. part.0) (constant_fault l.types) l.table l.part (drop l.constant-index l.parts) ≡ constants_fault l.types l.first l.parts)
