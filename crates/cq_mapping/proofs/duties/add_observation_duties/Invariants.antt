use Rattle.std.proofs.Common.{◌≡◌, ◌++◌, take, map}
use Rattle.cq_mapping.specs.Duties.{observation_duty}
use Rattle.cq_mapping.proofs.duties.add_observation_duties.Given as goal

abbrev pub invariant-loop-equation : goal.invariant-loop-equation
invariant-loop-equation l = l.duties.items ≡ l.fn.duties.items ++ map (observation_duty l.mapping) (take l.equation-index l.equations)
