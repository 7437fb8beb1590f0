use Rattle.std.proofs.Common.{[], ◌∷◌, ◌≡◌, map, take}
use Rattle.cq_mapping.specs.Images.{key_image}
use Rattle.cq_compose.specs.MappingQuery.{from_variable}
use Rattle.cq_compose.proofs.of_mapping.assignments.Given as goal

abbrev pub invariant-loop-key : goal.invariant-loop-key
invariant-loop-key l = l.made.items ≡ map (λ key. from_variable l.mapping (key_image l.mapping key) ∷ []) (take l.key-index l.keys)
