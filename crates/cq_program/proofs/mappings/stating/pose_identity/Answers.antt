use Rattle.std.proofs.Common.{subst}
use Rattle.cq_theory.specs.Schema.{IsSchema}
use Rattle.cq_mapping.proofs.Identical.{identity_preserves}
use Rattle.cq_environment.specs.Environment.{environment_of, schema_meant}
use Rattle.cq_program.proofs.Settled.{schema_printed}
use Rattle.cq_program.proofs.mappings.stating.pose_identity.Goals as goal

pub returns-clause-grounded : goal.returns-clause-grounded
returns-clause-grounded c = λ name. (
  identity_preserves c.in_ok-over.over.schema.value (subst IsSchema c.deref.ensures c.is_well_sorted.ensures),
  schema_printed (environment_of c.args.env.now.names.entries) c.args.used.now (schema_meant c.in_ok-over.over) c.requires.settled c.in_ok-over.ensures,
)
