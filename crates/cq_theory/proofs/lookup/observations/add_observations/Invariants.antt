use Rattle.std.proofs.Common.{◌≡◌, ◌+◌, drop, take, map}
use Rattle.cq_theory.specs.Resolve.{first_fault}
use Rattle.cq_theory.specs.SchemaParts.{observation_fault, made_observation}
use Rattle.cq_theory.proofs.lookup.observations.add_observations.Given as goal

abbrev pub invariant-loop-part : goal.invariant-loop-part
invariant-loop-part l =
    (l.number ≡ l.first + l.part-index)
    × (l.made.items ≡ map (made_observation l.schema) (take l.part-index l.parts))
    × (first_fault (observation_fault l.schema) l.number (drop l.part-index l.parts) ≡ first_fault (observation_fault l.schema) l.first l.parts)
