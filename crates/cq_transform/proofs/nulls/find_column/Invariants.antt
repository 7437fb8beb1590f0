use Rattle.std.proofs.Common.{ℕ, Some, ◌≡◌, ◌<◌}
use Rattle.std.specs.Prelude.{slice_get}
use Rattle.cq_theory.specs.Tables.{Assignment}
use Rattle.cq_theory.specs.declared.value.Value.{Value}
use Rattle.cq_instance.specs.InstanceData.{InstanceData}
use Rattle.cq_transform.specs.Nulls.{Keeps, IsInitial, AreSpelled, IsClosed, IsColumnOf}
use Rattle.cq_transform.proofs.nulls.find_column.Given as goal

abbrev pub invariant-loop-row : goal.invariant-loop-row
invariant-loop-row l = record {
  keeps : Keeps l.initial.found.items l.found.items;
  spelled : (i : InstanceData) (B : Assignment) → IsInitial i → IsColumnOf i l.target B l.attribute l.images l.column
      → AreSpelled i l.target B l.initial.found.items → AreSpelled i l.target B l.found.items;
  closed : (n : ℕ) → n < l.row → (v : Value) → slice_get l.column n ≡ Some v → IsClosed l.found.items v;
}
