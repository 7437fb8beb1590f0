use Rattle.std.proofs.Common.{◌≡◌, ◌++◌}
use Rattle.std.specs.List.{flat_map}
use Rattle.cq_theory.specs.Canonical.{below}
use Rattle.cq_text.specs.Spelling.{row_generator_line}
use Rattle.cq_text.proofs.generators.push_entity_generators.Given as goal

abbrev pub invariant-loop-row : goal.invariant-loop-row
invariant-loop-row l = l.text.items ≡ l.initial.text.items ++ flat_map (row_generator_line l.instance.schema l.instance.tables l.entity) (below l.row)
