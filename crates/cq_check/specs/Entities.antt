-- The duties of a mapping, by the entity over which they are.
use Rattle.std.specs.Prelude.{ℕ, List, Option, Some, ◌≡◌, ◌<◌, ◌≤◌, length, map, take, option_map, slice_get}
use Rattle.cq_check.specs.Answers.{IsDerived, over}
use Rattle.cq_check.specs.Deciding.{IsCause}
use Rattle.cq_check.specs.Prepared.{IsPreparedFor}
use Rattle.cq_check.specs.declared.deciding.Cause.{Cause}
use Rattle.cq_check.specs.declared.deciding.Unmet.{Unmet}
use Rattle.cq_check.specs.declared.mappings.DutyList.{DutyList}
use Rattle.cq_mapping.specs.MappingData.{MappingData as Mapping}
use Rattle.cq_mapping.specs.Duties.{duties_of}
use Rattle.cq_mapping.specs.declared.duties.Duty.{Duty}
use Rattle.cq_theory.specs.declared.presentation.Equation.{Equation}
use Rattle.cq_theory.specs.Groups.{AreGroups}

abbrev pub duty_entities : List Duty → List ℕ
duty_entities duties = map (λ duty. duty.schema_entity) duties

abbrev pub equation_at : List Duty → ℕ → Option Equation
equation_at duties place = option_map (λ duty. duty.equation) (slice_get duties place)

-- the members before the first one that isn't below a bound
pub record IsCut (places : List ℕ) (bound : ℕ) (cut : List ℕ) : Type 0 where
  pub count : ℕ
  pub is : cut ≡ take count places
  pub below : (r place : ℕ) → slice_get cut r ≡ Some place → place < bound
  pub next : (place : ℕ) → slice_get places count ≡ Some place → bound ≤ place

module _ (F : Mapping) where
  pub record AreDuties (list : DutyList) : Type 0 where
    pub are : list.duties.items ≡ duties_of F
    pub groups : AreGroups (duty_entities (duties_of F)) (length F.target.entities) list.by_entity
    pub target : IsPreparedFor F.target list.target

  abbrev pub IsMetDuty : Duty → Type 0
  IsMetDuty duty = IsDerived F.target (over F duty) duty.equation

  -- the duties over an entity that stand below a bound are derivable
  abbrev pub AreMetOver : ℕ → ℕ → Type 0
  AreMetOver entity bound = (i : ℕ) (duty : Duty) → i < bound → slice_get (duties_of F) i ≡ Some duty
      → duty.schema_entity ≡ entity → IsMetDuty duty

  -- a duty below a bound isn't known to be derivable, and those over its entity before it are derivable
  pub record IsUnmetOver (entity bound depth : ℕ) (unmet : Unmet) : Type 0 where
    pub duty : Duty
    pub is : slice_get (duties_of F) unmet.place ≡ Some duty
    pub below : unmet.place < bound
    pub earlier : AreMetOver entity unmet.place
    pub cause : IsCause F.target (over F duty) depth duty.equation unmet.cause

  -- the duties over the first entities that stand below a bound are derivable
  abbrev pub AreMetBelow : ℕ → ℕ → Type 0
  AreMetBelow entity bound = (i : ℕ) (duty : Duty) → i < bound → slice_get (duties_of F) i ≡ Some duty
      → duty.schema_entity < entity → IsMetDuty duty

  -- the duty at a place isn't known to be derivable
  pub record IsUnmet (depth place : ℕ) (cause : Cause) : Type 0 where
    pub duty : Duty
    pub is : slice_get (duties_of F) place ≡ Some duty
    pub cause_is : IsCause F.target (over F duty) depth duty.equation cause
