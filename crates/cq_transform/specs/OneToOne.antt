-- Two transforms, each of which undoes the other.
use Rattle.std.specs.Prelude.{ℕ, ◌≡◌, ◌<◌, length}
use Rattle.cq_theory.specs.declared.value.Value.{Value}
use Rattle.cq_theory.specs.declared.value.Value.TheVariants.{Null}
use Rattle.cq_theory.specs.Tables.{count_of}
use Rattle.cq_theory.specs.Homomorphism.{row_image, value_image}
use Rattle.cq_instance.specs.InstanceData.{InstanceData}
use Rattle.cq_instance.specs.declared.transform.Transform.{Transform}
use Rattle.cq_transform.specs.Transforms.{GoesFrom}

module _ (i j : InstanceData) (f : Transform) where
  -- where f sends a row and a value
  abbrev pub row_sent : ℕ → ℕ → ℕ
  row_sent = row_image i.schema i.tables j.tables f.rows f.nulls

  abbrev pub value_sent : Value → Value
  value_sent = value_image i.schema i.tables j.tables f.rows f.nulls

-- g, from j to i, sends each row and each null back whence f sends it
pub record IsUndone (i j : InstanceData) (f g : Transform) : Type 0 where
  pub rows : (entity row : ℕ) → row < count_of i.tables entity → row_sent j i g entity (row_sent i j f entity row) ≡ row
  pub nulls : (label : ℕ) → label < length i.tables.algebra.nulls → value_sent j i g (value_sent i j f (Null label)) ≡ Null label

-- f goes from i to j, and g back, and both are one to one
pub record AreOneToOne (i j : InstanceData) (f g : Transform) : Type 0 where
  pub goes : GoesFrom f i j
  pub comes : GoesFrom g j i
  pub there : IsUndone i j f g
  pub back : IsUndone j i g f
