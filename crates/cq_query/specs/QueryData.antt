-- What contracts see of a query.
use Rattle.std.specs.Prelude.{List}
use Rattle.cq_theory.specs.SchemaData.{SchemaData}
use Rattle.cq_blocks.specs.declared.block.Block.{Block}

-- a source, a target, and a block for each entity of the target
pub record QueryData : Type 0 where
  pub source : SchemaData
  pub target : SchemaData
  pub blocks : List Block
