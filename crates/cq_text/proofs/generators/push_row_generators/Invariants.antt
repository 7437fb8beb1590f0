use Rattle.std.proofs.Common.{◌≡◌, ◌++◌}
use Rattle.std.specs.List.{flat_map}
use Rattle.cq_theory.specs.Tables.{count_of}
use Rattle.cq_theory.specs.Canonical.{below}
use Rattle.cq_text.specs.Spelling.{row_generator_line}
use Rattle.cq_text.proofs.generators.push_row_generators.Given as goal

abbrev pub invariant-loop-entity : goal.invariant-loop-entity
invariant-loop-entity l =
    l.text.items ≡ l.initial.text.items
    ++ flat_map (λ entity. flat_map (row_generator_line l.instance.schema l.instance.tables entity) (below (count_of l.instance.tables entity))) (below l.entity)
