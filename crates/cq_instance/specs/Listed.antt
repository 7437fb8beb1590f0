-- Instances whose rows, nulls and entries stand in their fixed order.
use Rattle.std.specs.Prelude.{◌≡◌, false}
use Rattle.cq_theory.specs.Listed.{Lists}
use Rattle.cq_instance.specs.InstanceData.{InstanceData}

-- the instance is the listed model of its presentation by what its generators stand for, its names are the least ones, and its tables were
-- made of the presentation
pub record IsListed (i : InstanceData) : Type 0 where
  pub lists : Lists i.schema i.presentation i.tables i.assignment
  pub least : lists.names ≡ i.names
  pub made : i.given ≡ false
