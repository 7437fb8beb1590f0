use Rattle.std.proofs.Common.{◌≡◌, ◌+◌, drop, take, map}
use Rattle.cq_theory.specs.Declaring.{first_part_fault}
use Rattle.cq_theory.specs.TypesideParts.{function_fault, functions_fault, made_function}
use Rattle.cq_theory.proofs.lookup.typeside_parts.add_functions.Given as goal

abbrev pub invariant-loop-function : goal.invariant-loop-function
invariant-loop-function l =
    (l.part ≡ l.first + l.function-index)
    × (l.table ≡ map (λ part. part.0) (take l.function-index l.parts))
    × (l.functions.items ≡ map (made_function l.types) (take l.function-index l.parts))
    × (first_part_fault (λ part. part.0) (function_fault l.types) l.table l.part (drop l.function-index l.parts) ≡ functions_fault l.types l.first l.parts)
