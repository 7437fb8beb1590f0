-- Why two constants of a declared instance are equal.
use Rattle.std.specs.Prelude.{ℕ, List, Bool, true, false, ◌≡◌}
use Rattle.cq_theory.specs.SchemaData.{SchemaData as Schema}
use Rattle.cq_theory.specs.declared.presentation.Presentation.{Presentation}
use Rattle.cq_conflict.specs.Telling.{TellsConflict}

-- A derivation is told over some presentation that ends with the equation of the constants of these texts.
pub record TellsClash (least greater old new : List ℕ) : Type 0 where
  pub schema : Schema
  pub presentation : Presentation
  pub tells : TellsConflict schema presentation least greater old new

-- one is told, or the text stays as it was
abbrev pub Tells : List ℕ → List ℕ → List ℕ → List ℕ → Bool → Type 0
Tells least greater old new true = TellsClash least greater old new
Tells least greater old new false = new ≡ old
