use Rattle.std.proofs.Common.{◌≡◌, ◌++◌}
use Rattle.std.specs.List.{flat_map}
use Rattle.cq_theory.specs.Canonical.{below}
use Rattle.cq_text.specs.Transcript.{entity_lines}
use Rattle.cq_text.proofs.rows.push_entities.Given as goal

abbrev pub invariant-loop-entity : goal.invariant-loop-entity
invariant-loop-entity l = l.text.items ≡ l.initial.text.items ++ flat_map (entity_lines l.instance) (below l.entity)
