-- Values by which entries are told apart.
use Rattle.std.specs.Prelude.{◌≡◌, ℕ, ◌<◌, ◌↔◌, List, length, slice_index, All}
use Rattle.cq_theory.specs.declared.value.Value.{Value}
use Rattle.cq_theory.specs.Tables.{IsPlain}
use Rattle.cq_flat.specs.Values.{value_at}

-- the values of the nodes of these classes: one for the nodes of one class alone, each a constant or a null
pub record AreValuesOf (n : ℕ) (classes : List ℕ) (values : List Value) : Type 0 where
  pub classes_count : length classes ≡ n
  pub values_count : length values ≡ n
  pub plain : All IsPlain values
  pub equal : (a b : ℕ) → a < n → b < n → (value_at values a ≡ value_at values b) ↔ (slice_index classes a ≡ slice_index classes b)
