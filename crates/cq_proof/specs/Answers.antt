-- What an answer says of an equation in an instance.
use Rattle.std.specs.Prelude.{List, [], ◌∷◌, Option, Some, None, ◌≡◌}
use Rattle.cq_theory.specs.SchemaData.{SchemaData as Schema}
use Rattle.cq_theory.specs.declared.presentation.Presentation.{Presentation}
use Rattle.cq_theory.specs.declared.presentation.Equation.{Equation}
use Rattle.cq_theory.specs.declared.presentation.Sort.{Sort}
use Rattle.cq_theory.specs.Sorts.{sort_of}
use Rattle.cq_theory.specs.Derivation.{Derives, left_of, right_of}
use Rattle.cq_theory.specs.Tables.{Initial, meaning_of}
use Rattle.cq_instance.specs.InstanceData.{InstanceData}
use Rattle.cq_steps.specs.declared.step.Step.{Step}
use Rattle.cq_steps.specs.Right.{Right}
use Rattle.cq_proof.specs.declared.answer.Answer.{Answer}
use Rattle.cq_proof.specs.declared.answer.Answer.TheVariants.{Steps, Different}

-- the instance is the model that its presentation presents
abbrev pub IsInitial : InstanceData → Type 0
IsInitial i = Initial i.schema i.presentation i.tables i.assignment

-- both sides have one sort over the presentation's generators
pub record IsWellSorted (S : Schema) (P : Presentation) (e : Equation) : Type 0 where
  pub sort : Sort
  pub left : sort_of S P.generators (left_of e) ≡ Some sort
  pub right : sort_of S P.generators (right_of e) ≡ Some sort

-- both sides have one row or one value in the instance
abbrev pub AreOne : InstanceData → Equation → Type 0
AreOne i e = meaning_of i.tables i.assignment (left_of e) ≡ meaning_of i.tables i.assignment (right_of e)

-- the equation is derivable
abbrev pub IsDerivable : Schema → Presentation → Equation → Type 0
IsDerivable S P e = Derives S P (left_of e) (right_of e)

-- the equation of the last step, where there is one
abbrev pub last_of : List Step → Option Equation
last_of [] = None
last_of (step ∷ []) = Some step.equation
last_of (step ∷ rest) = last_of rest

-- the steps are a right list that ends with the equation
abbrev pub Proves : Schema → Presentation → List Step → Equation → Type 0
Proves S P steps e = Right S P steps × (last_of steps ≡ Some e)

-- With steps, the sides are one in the instance, the equation is derivable, and the steps prove it. Without, the sides are two there,
-- and the equation isn't derivable.
abbrev pub Explains : InstanceData → Equation → Answer → Type 0
Explains i e (Steps steps) = AreOne i e × IsDerivable i.schema i.presentation e × Proves i.schema i.presentation steps.items e
Explains i e Different = (AreOne i e → ⊥) × (IsDerivable i.schema i.presentation e → ⊥)
