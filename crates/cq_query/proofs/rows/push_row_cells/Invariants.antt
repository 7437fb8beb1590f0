use Rattle.std.proofs.Common.{◌≡◌, ◌++◌, map, take}
use Rattle.cq_theory.specs.Groups.{positions}
use Rattle.cq_query.specs.Translation.{attribute_sources}
use Rattle.cq_query.specs.Coeval.{cell_equation}
use Rattle.cq_query.proofs.rows.push_row_cells.Given as goal

abbrev pub invariant-loop-attribute : goal.invariant-loop-attribute
invariant-loop-attribute l = l.made.items ≡ l.initial.made.items ++ map (cell_equation l.layout.query.now l.layout.sheet.now l.layout.nulls l.row.entity l.row.number) (take l.attribute-index (positions (attribute_sources l.layout.query.now) l.row.entity))
