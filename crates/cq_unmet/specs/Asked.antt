-- A duty by its number.
use Rattle.std.specs.Prelude.{ℕ, Some, ◌≡◌, slice_get}
use Rattle.cq_mapping.specs.Duties.{duties_of}
use Rattle.cq_mapping.specs.MappingData.{MappingData as Mapping}
use Rattle.cq_mapping.specs.declared.duties.Duty.{Duty}
use Rattle.cq_query.specs.Duties.{all_duties, frozen}
use Rattle.cq_query.specs.QueryData.{QueryData as Query}
use Rattle.cq_theory.specs.Presentation.{IsPresentation}
use Rattle.cq_witness.specs.Paths.{over}
use Rattle.cq_unmet.specs.declared.duties.Asked.{Asked}

-- duty n of a mapping, from 0, over one generator of its entity
pub record IsMappingDuty (F : Mapping) (n : ℕ) (asked : Asked) : Type 0 where
  pub duty : Duty
  pub there : slice_get (duties_of F) n ≡ Some duty
  pub over_is : asked.over ≡ over F.target duty.schema_entity
  pub equation_is : asked.equation ≡ duty.equation
  pub presented : IsPresentation F.target asked.over

-- duty n of a query, from 0, over the frozen presentation of its entity
pub record IsQueryDuty (Q : Query) (n : ℕ) (asked : Asked) : Type 0 where
  pub entity : ℕ
  pub there : slice_get (all_duties Q) n ≡ Some (entity, asked.equation)
  pub over_is : asked.over ≡ frozen Q entity
  pub presented : IsPresentation Q.source asked.over
