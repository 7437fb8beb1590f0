-- Instances whose literals the language accepts.
use Rattle.std.specs.Prelude.{true, ◌≡◌, ◌≤◌, All}
use Rattle.cq_theory.specs.Schema.{IsSchema}
use Rattle.cq_values.specs.Readable.{is_name}
use Rattle.cq_instance.specs.InstanceData.{InstanceData}
use Rattle.cq_instance.specs.Given.{size_of}
use Rattle.cq_return.specs.Return.{IsReturnableEntry, IsReturnableValue}
use Rattle.cq_return.specs.WrittenTerms.{ArePlainNames}

-- What the language asks for beyond what each instance has: a well-sorted schema; words that aren't reserved as the names of types,
-- entities, functions, keys and attributes; functions of one argument or more; constants of at most 255 bytes of UTF-8; at most
-- 16,000,000 rows and nulls together; and at most 64 levels and 1,024 symbols in a value.
pub record IsWritable (i : InstanceData) : Type 0 where
  pub schema : IsSchema i.schema
  pub names : ArePlainNames i.schema
  pub constants : All (λ constant. is_name constant.0 ≡ true) i.schema.typeside.constants
  pub few : size_of i.tables ≤ 16000000
  pub cells : All (All IsReturnableValue) i.tables.sheet.cells
  pub entries : All IsReturnableEntry i.tables.algebra.entries
