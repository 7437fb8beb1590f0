use Rattle.std.proofs.Common.{◌≡◌, ◌++◌, map, take}
use Rattle.cq_instance.specs.Numbers.{cell_made}
use Rattle.cq_instance.proofs.canonical.equations.push_cells.Given as goal

abbrev pub invariant-loop-attribute : goal.invariant-loop-attribute
invariant-loop-attribute l = l.made.items ≡ l.initial.made.items ++ map (cell_made l.sheet l.numbers l.row.generator l.row.number) (take l.attribute-index l.attributes)
