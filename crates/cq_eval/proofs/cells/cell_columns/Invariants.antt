use Rattle.std.proofs.Common.{◌≡◌, map, take, false}
use Rattle.std.specs.Prelude.{nat_lt}
use Rattle.std.specs.List.{enumerate_from, list_any}
use Rattle.cq_theory.specs.Value.{symbols_of}
use Rattle.cq_eval.specs.Made.{made_cells}
use Rattle.cq_eval.proofs.cells.cell_columns.Given as goal

abbrev pub invariant-loop-attribute : goal.invariant-loop-attribute
invariant-loop-attribute l = record {
  columns : l.columns.items ≡ map (made_cells l.query l.instance.tables) (enumerate_from 0 (take l.attribute l.attributes));
  fit : list_any (list_any (λ v. nat_lt 1024 (symbols_of v))) l.columns.items ≡ false;
}
