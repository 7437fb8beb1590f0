-- What the answers say of equations and of the duties of mappings and queries.
use Rattle.std.specs.Prelude.{ℕ, List, Some, ◌≡◌, ◌<◌, ◌≤◌, ◌+◌, slice_get}
use Rattle.cq_check.specs.declared.equality.Verdict.{Verdict}
use Rattle.cq_check.specs.declared.equality.Verdict.TheVariants.{Yes, No}
use Rattle.cq_rows.specs.Saturated.{NoneCloses}
use Rattle.cq_theory.specs.declared.presentation.Equation.{Equation}
use Rattle.cq_theory.specs.declared.presentation.Presentation.{Presentation}
use Rattle.cq_theory.specs.declared.presentation.Sort.{Sort}
use Rattle.cq_theory.specs.SchemaData.{SchemaData as Schema}
use Rattle.cq_theory.specs.Sorts.{sort_of}
use Rattle.cq_theory.specs.Closing.{IsWide}
use Rattle.cq_theory.specs.Derivation.{left_of, right_of, Derives, Within}
use Rattle.cq_mapping.specs.MappingData.{MappingData as Mapping}
use Rattle.cq_mapping.specs.Duties.{duties_of, one_generator}
use Rattle.cq_mapping.specs.declared.duties.Duty.{Duty}
use Rattle.cq_query.specs.QueryData.{QueryData as Query}
use Rattle.cq_query.specs.Duties.{frozen, all_duties}

module _ (S : Schema) (P : Presentation) where
  -- both sides have one sort over the presentation's generators
  pub record IsWellSorted (e : Equation) : Type 0 where
    pub sort : Sort
    pub left : sort_of S P.generators (left_of e) ≡ Some sort
    pub right : sort_of S P.generators (right_of e) ≡ Some sort

  abbrev pub IsDerived : Equation → Type 0
  IsDerived e = Derives S P (left_of e) (right_of e)

  abbrev pub IsDerivedWithin : Equation → ℕ → Type 0
  IsDerivedWithin e j = Within S P j (left_of e) (right_of e)

  abbrev pub IsAnswer : Equation → Verdict → Type 0
  IsAnswer e Yes = IsDerived e
  IsAnswer e No = IsDerived e → ⊥

  -- it is not derived within the depth, and no depth up to it closes
  pub record IsTooDeep (e : Equation) (depth : ℕ) : Type 0 where
    pub underived : IsDerivedWithin e depth → ⊥
    pub none_closes : NoneCloses S P depth

  -- at some depth there are too many rows, and it is derived within no lesser one
  pub record IsTooWide (e : Equation) (depth : ℕ) : Type 0 where
    pub at : ℕ
    pub within : at ≤ depth
    pub wide : IsWide S P at
    pub underived : (i : ℕ) → i < at → IsDerivedWithin e i → ⊥

-- Duties in order: equations, each of which is to be derivable from a presentation.
module _ (D : Type 0) (S : Schema) (over : D → Presentation) (equation : D → Equation) (duties : List D) where
  abbrev pub IsMet : D → Type 0
  IsMet duty = IsDerived S (over duty) (equation duty)

  -- the first duties are derivable
  abbrev pub AreMet : ℕ → Type 0
  AreMet count = (i : ℕ) (d : D) → i < count → slice_get duties i ≡ Some d → IsMet d

  -- the duty with this number, from 1, where every earlier one is derivable
  pub record IsNumbered (number : ℕ) (duty : D) : Type 0 where
    pub place : ℕ
    pub number_is : number ≡ place + 1
    pub is : slice_get duties place ≡ Some duty
    pub earlier : AreMet place

  -- the first duty that isn't derivable has this number
  abbrev pub IsFirstUnmet : ℕ → Type 0
  IsFirstUnmet number = (duty : D) × IsNumbered number duty × (IsMet duty → ⊥)

  -- the first duty that isn't known to be derivable has this number: it is too deep, or there are too many rows
  abbrev pub IsFirstTooDeep : ℕ → ℕ → Type 0
  IsFirstTooDeep depth number = (duty : D) × IsNumbered number duty × IsTooDeep S (over duty) (equation duty) depth

  abbrev pub IsFirstTooWide : ℕ → ℕ → Type 0
  IsFirstTooWide depth number = (duty : D) × IsNumbered number duty × IsTooWide S (over duty) (equation duty) depth

module _ (F : Mapping) where
  -- the presentation over which a duty of a mapping is asked
  abbrev pub over : Duty → Presentation
  over duty = one_generator duty.schema_entity

  abbrev pub equation_of : Duty → Equation
  equation_of duty = duty.equation

  abbrev pub IsDutyAt : ℕ → Duty → Type 0
  IsDutyAt = IsNumbered Duty F.target over equation_of (duties_of F)

  abbrev pub IsNotPreserved : ℕ → Type 0
  IsNotPreserved = IsFirstUnmet Duty F.target over equation_of (duties_of F)

  abbrev pub IsTooDeepDuty : ℕ → ℕ → Type 0
  IsTooDeepDuty = IsFirstTooDeep Duty F.target over equation_of (duties_of F)

  abbrev pub IsTooWideDuty : ℕ → ℕ → Type 0
  IsTooWideDuty = IsFirstTooWide Duty F.target over equation_of (duties_of F)

module _ (Q : Query) where
  -- the presentation over which a duty of a query is asked: the frozen one of its entity
  abbrev pub frozen_over : ℕ × Equation → Presentation
  frozen_over duty = frozen Q duty.0

  abbrev pub duty_equation : ℕ × Equation → Equation
  duty_equation duty = duty.1

  -- the first duties of the query are derivable
  abbrev pub AreMetOf : ℕ → Type 0
  AreMetOf = AreMet (ℕ × Equation) Q.source frozen_over duty_equation (all_duties Q)

  abbrev pub IsUnsoundAt : ℕ → Type 0
  IsUnsoundAt = IsFirstUnmet (ℕ × Equation) Q.source frozen_over duty_equation (all_duties Q)

  abbrev pub IsTooDeepAt : ℕ → ℕ → Type 0
  IsTooDeepAt = IsFirstTooDeep (ℕ × Equation) Q.source frozen_over duty_equation (all_duties Q)

  abbrev pub IsTooWideAt : ℕ → ℕ → Type 0
  IsTooWideAt = IsFirstTooWide (ℕ × Equation) Q.source frozen_over duty_equation (all_duties Q)
