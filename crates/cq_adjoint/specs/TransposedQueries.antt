-- Transposition along a query.
use Rattle.std.specs.Prelude.{ℕ, List, Some, ◌≡◌, ◌<◌, length, slice_get}
use Rattle.cq_theory.specs.declared.term.EntTerm.{EntTerm}
use Rattle.cq_theory.specs.declared.term.TypeTerm.{TypeTerm}
use Rattle.cq_theory.specs.declared.value.Value.{Value}
use Rattle.cq_theory.specs.declared.value.Value.TheVariants.{Null}
use Rattle.cq_theory.specs.Tables.{count_of}
use Rattle.cq_theory.specs.Homomorphism.{row_image, value_image, IsHomomorphism}
use Rattle.cq_instance.specs.InstanceData.{InstanceData}
use Rattle.cq_instance.specs.declared.transform.Transform.{Transform}
use Rattle.cq_query.specs.QueryData.{QueryData as Query}
use Rattle.cq_adjoint.specs.Copies.{copied_value, answers_at}
use Rattle.cq_adjoint.specs.QueryMoves.{value_sent, copies_sent}

-- h goes from coeval of i to j, and rows and nulls from i to eval of j. Each variable's row in the answer to which a
-- row of i goes is the row to which h sends the copy of the row and the variable. Each null goes where h sends the
-- value of the null's generator.
pub record AreTransposed (Q : Query) (h : Transform) (i a j d : InstanceData) (answers : List (List (List ℕ)))
    (rows : List (List ℕ)) (nulls : List Value) : Type 0 where
  pub each_row : (entity row : ℕ) → row < count_of i.tables entity
      → slice_get (answers_at answers entity) (row_image i.schema i.tables d.tables rows nulls entity row)
      ≡ Some (copies_sent Q h i a j entity row)
  pub each_null : (label : ℕ) → label < length i.tables.algebra.nulls
      → value_image i.schema i.tables d.tables rows nulls (Null label)
      ≡ value_sent h a j (copied_value Q i.tables (Null label))

-- h is the only homomorphism from a to j to which rows and nulls are transposed
abbrev pub IsOnlyOutOfCoeval : Query → Transform → (i a j d : InstanceData) → List (List (List ℕ)) → List (List ℕ)
    → List Value → Type 0
IsOnlyOutOfCoeval Q h i a j d answers rows nulls = (other : Transform)
    → IsHomomorphism a.schema a.tables j.tables other.rows other.nulls
    → AreTransposed Q other i a j d answers rows nulls → (other.rows ≡ h.rows) × (other.nulls ≡ h.nulls)
