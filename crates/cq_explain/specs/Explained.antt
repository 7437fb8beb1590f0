-- What explains whether an equation holds in an instance.
use Rattle.std.specs.Prelude.{◌≡◌, ℕ, List}
use Rattle.cq_theory.specs.declared.presentation.Equation.{Equation}
use Rattle.cq_instance.specs.InstanceData.{InstanceData}
use Rattle.cq_steps.specs.declared.step.Step.{Step}
use Rattle.cq_proof.specs.Answers.{IsDerivable, Proves}
use Rattle.cq_explain.specs.Explanation.{different_text, equal_text}
use Rattle.cq_explain.specs.Question.{Asks}

-- the text is that of a right list of steps which ends with the equation, where it is derivable, and else tells the two rows or values
pub data IsExplanation (i : InstanceData) (e : Equation) (text : List ℕ) : Type 0 where
  equal : IsDerivable i.schema i.presentation e → (steps : List Step) → Proves i.schema i.presentation steps e
      → text ≡ equal_text i.schema i.presentation steps → IsExplanation i e text
  different : (IsDerivable i.schema i.presentation e → ⊥) → text ≡ different_text i e → IsExplanation i e text

-- the text explains the equation which the two texts ask about over the instance's presentation
pub record Explains (i : InstanceData) (left right text : List ℕ) : Type 0 where
  pub equation : Equation
  pub asks : Asks i.schema i.presentation left right equation
  pub explains : IsExplanation i equation text
