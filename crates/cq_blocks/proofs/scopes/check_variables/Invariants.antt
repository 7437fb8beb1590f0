use Rattle.std.proofs.Common.{◌≡◌, ◌+◌, map, take, drop}
use Rattle.cq_theory.specs.Canonical.{below}
use Rattle.cq_blocks.specs.Blocks.{names_in, variable_fault, variables_fault, first_fault_after}
use Rattle.cq_blocks.proofs.scopes.check_variables.Given as goal

abbrev pub invariant-loop-part : goal.invariant-loop-part
invariant-loop-part l =
    (l.number ≡ l.first + l.part-index)
    × (l.tables.items ≡ map (λ e. names_in l.entities e (take l.part-index l.parts)) (below l.count))
    × (first_fault_after (variable_fault l.source l.entities) (take l.part-index l.parts) l.number (drop l.part-index l.parts) ≡ variables_fault l.source l.entities l.first l.parts)
