use Rattle.std.proofs.Common.{◌≡◌, ◌++◌, take}
use Rattle.std.specs.List.{flat_map}
use Rattle.cq_text.specs.Spelling.{cell_equation_line}
use Rattle.cq_text.proofs.equations.push_cells.Given as goal

abbrev pub invariant-loop-attribute : goal.invariant-loop-attribute
invariant-loop-attribute l =
    l.text.items ≡ l.initial.text.items ++ flat_map (cell_equation_line l.instance.schema l.instance.tables l.generator l.row) (take l.attribute-index l.attributes)
