use Rattle.std.proofs.Common.{◌≡◌, ◌++◌, take}
use Rattle.std.specs.Prelude.{slice_get}
use Rattle.std.specs.List.{flat_map}
use Rattle.cq_theory.specs.Groups.{positions}
use Rattle.cq_query.specs.Translation.{observation_sources}
use Rattle.cq_query.specs.Duties.{observation_duties}
use Rattle.cq_query.proofs.duties.push_observation_duties.Given as goal

abbrev pub invariant-loop-number : goal.invariant-loop-number
invariant-loop-number l =
    l.made.items ≡ l.initial.made.items ++ flat_map (λ k. observation_duties l.query l.entity (slice_get l.query.target.obs_eqs k)) (take l.number-index (positions (observation_sources l.query) l.entity))
