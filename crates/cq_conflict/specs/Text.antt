-- The lines of a derivation that is told.
use Rattle.std.specs.Prelude.{ℕ, List, [], ◌++◌, Option, Some, None, codes, slice_get, slice_index_or}
use Rattle.std.specs.List.{enumerate_from, flat_map}
use Rattle.cq_theory.specs.SchemaData.{SchemaData as Schema}
use Rattle.cq_theory.specs.declared.presentation.Presentation.{Presentation}
use Rattle.cq_steps.specs.declared.step.Step.{Step}
use Rattle.cq_text.specs.Transcript.{line as with_end}
use Rattle.cq_explain.specs.Explanation.{equation_text, ordinal}
use Rattle.cq_conflict.specs.declared.told.Told.{Told}

-- what is noted of a line
abbrev pub note_at : List (List ℕ) → ℕ → List ℕ
note_at notes n = slice_index_or notes n []

module _ (S : Schema) (P : Presentation) where
  abbrev pub step_text : Option Step → List ℕ
  step_text None = []
  step_text (Some step) = equation_text S P step.equation

  module _ (steps : List Step) (notes : List (List ℕ)) where
    -- the number from 1, the equation of the step, and what is noted of it
    abbrev pub line_of : ℕ × Told → List ℕ
    line_of numbered =
        with_end
        (codes "  " ++ ordinal numbered.0 ++ codes ". " ++ step_text (slice_get steps numbered.1.step)
        ++ codes "    " ++ note_at notes numbered.0)

    abbrev pub told_lines : List Told → List ℕ
    told_lines told = flat_map line_of (enumerate_from 0 told)
