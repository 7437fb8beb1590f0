use Rattle.std.proofs.Common.{◌≡◌, ◌++◌, take}
use Rattle.std.specs.Prelude.{slice_get}
use Rattle.std.specs.List.{flat_map}
use Rattle.cq_theory.specs.Groups.{positions}
use Rattle.cq_query.specs.Translation.{key_sources}
use Rattle.cq_query.specs.Duties.{key_duties}
use Rattle.cq_query.proofs.duties.push_key_duties.Given as goal

abbrev pub invariant-loop-key : goal.invariant-loop-key
invariant-loop-key l =
    l.made.items ≡ l.initial.made.items ++ flat_map (λ k. key_duties l.query k (slice_get l.query.target.keys k)) (take l.key-index (positions (key_sources l.query) l.entity))
