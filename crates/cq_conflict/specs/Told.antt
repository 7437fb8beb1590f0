-- Which steps of a derivation are told, and from which others each of them follows.
use Rattle.std.specs.Prelude.{ℕ, List, [], ◌∷◌, ◌++◌, ◌+◌, ◌-◌, Some, ◌≡◌, length, slice_get}
use Rattle.cq_steps.specs.declared.step.Rule.{Rule}
use Rattle.cq_steps.specs.declared.step.Rule.TheVariants.{Reflexivity, Symmetry, Transitivity}
use Rattle.cq_steps.specs.declared.step.Step.{Step}
use Rattle.cq_conflict.specs.declared.told.Told.{Told}

-- the step of this number has this rule and these premises
pub record IsBy (steps : List Step) (n : ℕ) (rule : Rule) (from : List ℕ) : Type 0 where
  pub step : Step
  pub at : slice_get steps n ≡ Some step
  pub rule_is : step.rule ≡ rule
  pub from_is : step.from ≡ from

-- What is seen at once where the equations of the cited steps are known: one of them, that a term equals itself, what is seen turned round,
-- and two that are seen joined.
pub data IsSeen (steps : List Step) (cited : List ℕ) : ℕ → Type 0 where
  one_of : {n : ℕ} (k : ℕ) → slice_get cited k ≡ Some n → IsSeen steps cited n
  itself : {n : ℕ} → IsBy steps n Reflexivity [] → IsSeen steps cited n
  turned : {n : ℕ} (p : ℕ) → IsBy steps n Symmetry (p ∷ []) → IsSeen steps cited p → IsSeen steps cited n
  joined : {n : ℕ} (p q : ℕ) → IsBy steps n Transitivity (p ∷ q ∷ []) → IsSeen steps cited p → IsSeen steps cited q → IsSeen steps cited n

abbrev pub AreSeen : List Step → List ℕ → List ℕ → Type 0
AreSeen steps cited [] = Unit {0}
AreSeen steps cited (n ∷ numbers) = IsSeen steps cited n × AreSeen steps cited numbers

-- what is seen in the cited steps is seen in these too
abbrev pub Extends : List Step → List ℕ → List ℕ → Type 0
Extends steps cited more = (n : ℕ) → IsSeen steps cited n → IsSeen steps more n

-- where the first ones are seen, the others are
abbrev pub Leads : List Step → List ℕ → List ℕ → Type 0
Leads steps first others = (cited : List ℕ) → AreSeen steps cited first → AreSeen steps cited others

-- a step that is told: its premises are seen in those that it cites
pub record IsTold (steps : List Step) (told : Told) : Type 0 where
  pub step : Step
  pub at : slice_get steps told.step ≡ Some step
  pub seen : AreSeen steps told.from step.from

-- one step more is told
pub record Tells (steps : List Step) (number : ℕ) (old new : List Told) : Type 0 where
  pub one : Told
  pub more : new ≡ old ++ one ∷ []
  pub told : IsTold steps one
  pub step_is : one.step ≡ number

-- Each is told; the first of them is the last step of all.
pub record AreTelling (steps : List Step) (told : List Told) : Type 0 where
  pub each : (i : ℕ) (one : Told) → slice_get told i ≡ Some one → IsTold steps one
  pub final : Told
  pub at : slice_get told 0 ≡ Some final
  pub last : final.step + 1 ≡ length steps

-- Each is told; the last of them is the last step of all.
pub record AreTold (steps : List Step) (told : List Told) : Type 0 where
  pub each : (i : ℕ) (one : Told) → slice_get told i ≡ Some one → IsTold steps one
  pub final : Told
  pub at : slice_get told (length told - 1) ≡ Some final
  pub last : final.step + 1 ≡ length steps
