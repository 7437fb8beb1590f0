-- The search among all lists of steps, by ever more numbers that spell them.
use Rattle.std.specs.Prelude.{ℕ, List, ◌≡◌, ◌<◌}
use Rattle.cq_theory.specs.SchemaData.{SchemaData as Schema}
use Rattle.cq_theory.specs.declared.presentation.Presentation.{Presentation}
use Rattle.cq_theory.specs.declared.presentation.Equation.{Equation}
use Rattle.cq_steps.specs.declared.step.Step.{Step}
use Rattle.cq_proof.specs.Answers.{Proves}
use Rattle.cq_proof.specs.Counting.{AreDigits}
use Rattle.cq_proof.specs.Drafts.{spelled}

module _ (S : Schema) (P : Presentation) (e : Equation) where
  -- no list of steps that as many numbers spell proves the equation
  abbrev pub NoneIsOf : ℕ → Type 0
  NoneIsOf count = (numbers : List ℕ) → AreDigits count numbers → Proves S P (spelled numbers) e → ⊥

  -- nor does one that fewer numbers spell
  abbrev pub NoneIsShorter : ℕ → Type 0
  NoneIsShorter count = (fewer : ℕ) → fewer < count → NoneIsOf fewer

  -- as many numbers spell these steps
  abbrev pub AreSpelledBy : ℕ → List Step → Type 0
  AreSpelledBy count steps = (numbers : List ℕ) × AreDigits count numbers × (spelled numbers ≡ steps)

  -- the steps prove the equation, and none that fewer numbers spell do
  pub record AreFirst (steps : List Step) : Type 0 where
    pub proved : Proves S P steps e
    pub count : ℕ
    pub spelled_by : AreSpelledBy count steps
    pub none_shorter : NoneIsShorter count
