use Rattle.std.proofs.Common.{◌≡◌, map, take, false}
use Rattle.std.specs.Prelude.{nat_lt}
use Rattle.std.specs.List.{list_any}
use Rattle.cq_theory.specs.Tables.{AtRow, value_of}
use Rattle.cq_theory.specs.Value.{symbols_of}
use Rattle.cq_eval.proofs.cells.cell_column.Given as goal

abbrev pub invariant-loop-place : goal.invariant-loop-place
invariant-loop-place l = record {
  values : l.column.items ≡ map (λ rows. value_of l.instance.tables (map AtRow rows) l.term) (take l.place l.source);
  fit : list_any (λ v. nat_lt 1024 (symbols_of v)) l.column.items ≡ false;
}
