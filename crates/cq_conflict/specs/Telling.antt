-- What is appended of a derivation.
use Rattle.std.specs.Prelude.{ℕ, List, Bool, true, false, ◌++◌, ◌≡◌, codes}
use Rattle.cq_theory.specs.declared.constant.Con.{Con}
use Rattle.cq_theory.specs.ValueText.{con_text}
use Rattle.cq_proof.specs.Answers.{Proves}
use Rattle.cq_conflict.specs.Conflict.{equation_of_constants}
use Rattle.cq_theory.specs.SchemaData.{SchemaData as Schema}
use Rattle.cq_theory.specs.declared.presentation.Presentation.{Presentation}
use Rattle.cq_steps.specs.declared.step.Step.{Step}
use Rattle.cq_conflict.specs.declared.told.Told.{Told}
use Rattle.cq_conflict.specs.Text.{told_lines}
use Rattle.cq_conflict.specs.Told.{AreTold}

-- lines of the told steps are appended, with generators under some names, and with some notes
pub record TellsLines (S : Schema) (steps : List Step) (told : List Told) (old new : List ℕ) : Type 0 where
  pub shown : Presentation
  pub notes : List (List ℕ)
  pub more : new ≡ old ++ told_lines S shown steps notes told

-- lines of steps from which the last one is seen are appended
pub record TellsSteps (S : Schema) (steps : List Step) (old new : List ℕ) : Type 0 where
  pub told : List Told
  pub are_told : AreTold steps told
  pub lines : TellsLines S steps told old new

-- The lines of a right list of steps are appended that ends with the equation of the constants of these texts.
pub record TellsConflict (S : Schema) (P : Presentation) (least greater old new : List ℕ) : Type 0 where
  pub first : Con
  pub first_text : con_text S.typeside first ≡ least
  pub second : Con
  pub second_text : con_text S.typeside second ≡ greater
  pub steps : List Step
  pub proves : Proves S P steps (equation_of_constants first second)
  pub tells : TellsSteps S steps (old ++ codes "Because\n") new

-- they are appended, or the text stays as it was
abbrev pub Tells : Schema → Presentation → List ℕ → List ℕ → List ℕ → List ℕ → Bool → Type 0
Tells S P least greater old new true = TellsConflict S P least greater old new
Tells S P least greater old new false = new ≡ old
