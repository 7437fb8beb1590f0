use Rattle.std.proofs.Common.{◌≡◌, ◌+◌, false, cond}
use Rattle.cq_theory.specs.Tables.{Assignment}
use Rattle.cq_instance.specs.InstanceData.{InstanceData}
use Rattle.cq_transform.specs.Nulls.{Keeps, IsInitial, AreSpelled, AreEntriesClosed, count_open}
use Rattle.cq_transform.proofs.entries.find_entries.Given as goal

abbrev pub invariant-loop-changed : goal.invariant-loop-changed
invariant-loop-changed l = record {
  keeps : Keeps l.initial.found.items l.found.items;
  spelled : (i : InstanceData) (B : Assignment) → IsInitial i → i.tables.algebra.entries ≡ l.here
      → AreSpelled i l.target B l.initial.found.items → AreSpelled i l.target B l.found.items;
  closed : l.changed ≡ false → AreEntriesClosed l.found.items l.here;
}

abbrev pub decreases-loop-changed : goal.decreases-loop-changed
decreases-loop-changed l = count_open l.found.items + cond l.changed 1 0
