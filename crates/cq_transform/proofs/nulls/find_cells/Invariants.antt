use Rattle.std.proofs.Common.{◌≡◌}
use Rattle.cq_theory.specs.Tables.{Assignment}
use Rattle.cq_transform.specs.Rows.{rows_made}
use Rattle.cq_transform.specs.Nulls.{Keeps, IsInitial, AreSpelled, AreAttributesClosed}
use Rattle.cq_transform.proofs.nulls.find_cells.Given as goal

abbrev pub invariant-loop-attribute : goal.invariant-loop-attribute
invariant-loop-attribute l = record {
  keeps : Keeps l.initial.found.items l.found.items;
  spelled : (B : Assignment) → IsInitial l.source → l.rows ≡ rows_made l.source l.target B
      → AreSpelled l.source l.target B l.initial.found.items → AreSpelled l.source l.target B l.found.items;
  closed : AreAttributesClosed l.source l.found.items l.attribute;
}
