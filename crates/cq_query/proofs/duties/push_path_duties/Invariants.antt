use Rattle.std.proofs.Common.{◌≡◌, ◌++◌, take}
use Rattle.std.specs.Prelude.{slice_get}
use Rattle.std.specs.List.{flat_map}
use Rattle.cq_theory.specs.Groups.{positions}
use Rattle.cq_query.specs.Translation.{path_sources}
use Rattle.cq_query.specs.Duties.{path_duties}
use Rattle.cq_query.proofs.duties.push_path_duties.Given as goal

abbrev pub invariant-loop-number : goal.invariant-loop-number
invariant-loop-number l =
    l.made.items ≡ l.initial.made.items ++ flat_map (λ k. path_duties l.query l.entity (slice_get l.query.target.path_eqs k)) (take l.number-index (positions (path_sources l.query) l.entity))
