-- What contracts see of a part in its place among the parts of a colimit.
use Rattle.cq_base.specs.declared.name.Name.{Name}
use Rattle.cq_theory.specs.SchemaData.{SchemaData}
use Rattle.cq_colimit.specs.declared.placed.Start.{Start}

pub record PlacedData : Type 0 where
  pub name : Name
  pub schema : SchemaData
  pub start : Start
