-- What an instance is that a mapping makes of another one.
use Rattle.std.specs.Prelude.{◌≡◌}
use Rattle.cq_mapping.specs.MappingData.{MappingData as Mapping}
use Rattle.cq_mapping.specs.Images.{sigma}
use Rattle.cq_mapping.specs.Moved.{delta_tables}
use Rattle.cq_instance.specs.InstanceData.{InstanceData}
use Rattle.cq_instance.specs.Given.{given}
use Rattle.cq_transform.specs.Nulls.{IsInitial}

-- a is the initial model, with least names, of the presentation to which F sends that of i
pub record IsSigmaOf (F : Mapping) (i a : InstanceData) : Type 0 where
  pub over : i.schema ≡ F.source
  pub schema : a.schema ≡ F.target
  pub presentation : a.presentation ≡ sigma F i.presentation
  pub initial : IsInitial a

-- d is the instance of the tables that F pulls back from those of j
pub record IsDeltaOf (F : Mapping) (j d : InstanceData) : Type 0 where
  pub over : j.schema ≡ F.target
  pub instance : d ≡ given F.source (delta_tables F j.tables)
