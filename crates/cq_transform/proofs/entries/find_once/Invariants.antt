use Rattle.std.proofs.Common.{ℕ, Some, ◌≡◌, ◌<◌, true, false}
use Rattle.std.specs.Prelude.{slice_get}
use Rattle.cq_theory.specs.Tables.{Assignment}
use Rattle.cq_theory.specs.declared.value.Entry.{Entry}
use Rattle.cq_instance.specs.InstanceData.{InstanceData}
use Rattle.cq_transform.specs.Nulls.{Keeps, IsInitial, AreSpelled, IsEntryClosed, count_open}
use Rattle.cq_transform.proofs.entries.find_once.Given as goal

abbrev pub invariant-loop-entry : goal.invariant-loop-entry
invariant-loop-entry l = record {
  keeps : Keeps l.initial.found.items l.found.items;
  spelled : (i : InstanceData) (B : Assignment) → IsInitial i → i.tables.algebra.entries ≡ l.here
      → AreSpelled i l.target B l.initial.found.items → AreSpelled i l.target B l.found.items;
  more : l.changed ≡ true → count_open l.found.items < count_open l.initial.found.items;
  closed : l.changed ≡ false → (l.found.items ≡ l.initial.found.items)
      × ((n : ℕ) → n < l.entry-index → (e : Entry) → slice_get l.here n ≡ Some e → IsEntryClosed l.initial.found.items e);
}
