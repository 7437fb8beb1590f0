-- What contracts see of a schema.
use Rattle.std.specs.Prelude.{List}
use Rattle.cq_base.specs.declared.name.Name.{Name}
use Rattle.cq_theory.specs.declared.schema.Edge.{Edge}
use Rattle.cq_theory.specs.declared.schema.PathEq.{PathEq}
use Rattle.cq_theory.specs.declared.schema.ObsEq.{ObsEq}
use Rattle.cq_theory.specs.TypesideData.{TypesideData}

pub record SchemaData : Type 0 where
  pub typeside : TypesideData
  pub entities : List Name
  pub keys : List Edge
  pub attributes : List Edge
  pub path_eqs : List PathEq
  pub obs_eqs : List ObsEq
