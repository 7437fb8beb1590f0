-- Whether declarations and parts can be counted.
use Rattle.std.specs.Prelude.{ℕ, ◌<◌, ◌-◌, ◌^◌, All, length}
use Rattle.cq_syntax.specs.declared.program.Body.{Body}
use Rattle.cq_syntax.specs.declared.program.Body.TheVariants.{Typeside, Schema, Colimit, Mapping, Query, Instance, Transform}
use Rattle.cq_syntax.specs.declared.program.SchemaExp.TheVariants as schema_exp
use Rattle.cq_syntax.specs.declared.program.InstanceExp.TheVariants as instance_exp
use Rattle.cq_syntax.specs.declared.program.MappingExp.TheVariants as mapping_exp
use Rattle.cq_syntax.specs.declared.program.QueryExp.TheVariants as query_exp
use Rattle.cq_syntax.specs.declared.program.TransformExp.TheVariants as transform_exp
use Rattle.cq_syntax.specs.declared.program.Program.{Program}
use Rattle.cq_parts.specs.Parts.{colimit_count, typeside_count, schema_count, mapping_count, query_count, instance_count, transform_count}

-- how many parts a declaration has
abbrev pub part_count : Body → ℕ
part_count (Typeside lit) = typeside_count lit
part_count (Schema (schema_exp.Literal lit)) = schema_count lit
part_count (Colimit lit) = colimit_count lit
part_count (Mapping (mapping_exp.Literal lit)) = mapping_count lit
part_count (Query (query_exp.Literal lit)) = query_count lit
part_count (Instance (instance_exp.Literal lit)) = instance_count lit
part_count (Transform (transform_exp.Literal lit)) = transform_count lit
part_count _ = 0

-- declarations and parts can be counted by numbers of 32 bits
pub record HasFewParts (program : Program) : Type 0 where
  pub decls : length program.decls < 2 ^ 32 - 1
  pub parts : All (λ d. part_count d.body < 2 ^ 32) program.decls
