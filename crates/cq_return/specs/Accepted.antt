-- Presentations that are accepted at each depth from 1 on.
use Rattle.std.specs.Prelude.{ℕ, ◌≤◌}
use Rattle.cq_theory.specs.declared.presentation.Presentation.{Presentation}
use Rattle.cq_theory.specs.Closing.{Closes, IsInconsistent, IsWide}
use Rattle.cq_theory.specs.Presentation.{IsPresentation}
use Rattle.cq_theory.specs.SchemaData.{SchemaData as Schema}

-- The presentation is one over the schema, closes at each depth from 1 on, is wide at none, and makes no two constants equal. So `build`
-- refuses it for want of memory alone.
pub record IsAccepted (S : Schema) (P : Presentation) : Type 0 where
  pub presentation : IsPresentation S P
  pub closes : (depth : ℕ) → 1 ≤ depth → Closes S P depth
  pub narrow : (depth : ℕ) → IsWide S P depth → ⊥
  pub consistent : IsInconsistent S P → ⊥
