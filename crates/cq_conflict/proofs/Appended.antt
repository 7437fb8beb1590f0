-- What is appended of a derivation, put together.
use Rattle.std.proofs.Common.{ℕ, List, ◌++◌, ◌≡◌, codes, subst}
use Rattle.cq_theory.specs.SchemaData.{SchemaData as Schema}
use Rattle.cq_theory.specs.declared.constant.Con.{Con}
use Rattle.cq_theory.specs.declared.presentation.Presentation.{Presentation}
use Rattle.cq_theory.specs.ValueText.{con_text}
use Rattle.cq_proof.specs.Answers.{Proves}
use Rattle.cq_steps.specs.declared.step.Step.{Step}
use Rattle.cq_conflict.specs.Conflict.{equation_of_constants}
use Rattle.cq_conflict.specs.Telling.{TellsConflict, TellsSteps}

pub conflict_told : (S : Schema) (P : Presentation) (least greater before old new : List ℕ) (c d : Con) (steps : List Step) → con_text S.typeside c ≡ least
    → con_text S.typeside d ≡ greater → Proves S P steps (equation_of_constants c d) → old ≡ before ++ codes "Because\n" → TellsSteps S steps old new
    → TellsConflict S P least greater before new
conflict_told S P least greater before old new c d steps first second proves because tells = record {
  first = c;
  first_text = first;
  second = d;
  second_text = second;
  steps = steps;
  proves = proves;
  tells = subst (λ (text : List ℕ). TellsSteps S steps text new) because tells;
}
