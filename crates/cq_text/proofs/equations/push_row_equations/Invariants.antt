use Rattle.std.proofs.Common.{◌≡◌, ◌++◌}
use Rattle.std.specs.List.{flat_map}
use Rattle.cq_theory.specs.Tables.{count_of}
use Rattle.cq_theory.specs.Canonical.{below, row_equations}
use Rattle.cq_text.specs.Literal.{equation_line}
use Rattle.cq_text.proofs.equations.push_row_equations.Given as goal

abbrev pub invariant-loop-entity : goal.invariant-loop-entity
invariant-loop-entity l =
    l.text.items ≡ l.initial.text.items
    ++ flat_map (λ entity. flat_map (λ row. flat_map (equation_line l.instance.schema) (row_equations l.instance.schema l.instance.tables entity row)) (below (count_of l.instance.tables entity))) (below l.entity)
