use Rattle.std.proofs.Common.{[], ◌∷◌, ◌≡◌, map, false}
use Rattle.std.specs.Prelude.{nat_lt}
use Rattle.std.specs.List.{list_any}
use Rattle.cq_theory.specs.Canonical.{below}
use Rattle.cq_theory.specs.Tables.{AtRow, value_of}
use Rattle.cq_theory.specs.Value.{symbols_of}
use Rattle.cq_move.proofs.columns.value_column.Given as goal

abbrev pub invariant-loop-row : goal.invariant-loop-row
invariant-loop-row l = record {
  values : l.column.items ≡ map (λ r. value_of l.instance.tables (AtRow r ∷ []) l.term) (below l.row);
  fit : list_any (λ v. nat_lt 1024 (symbols_of v)) l.column.items ≡ false;
}
