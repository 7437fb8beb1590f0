use Rattle.std.proofs.Common.{◌≡◌, ◌++◌}
use Rattle.std.specs.List.{flat_map}
use Rattle.cq_theory.specs.Canonical.{below, row_equations}
use Rattle.cq_text.specs.Literal.{equation_line}
use Rattle.cq_text.proofs.equations.push_entity_equations.Given as goal

abbrev pub invariant-loop-row : goal.invariant-loop-row
invariant-loop-row l =
    l.text.items ≡ l.initial.text.items ++ flat_map (λ row. flat_map (equation_line l.instance.schema) (row_equations l.instance.schema l.instance.tables l.entity row)) (below l.row)
