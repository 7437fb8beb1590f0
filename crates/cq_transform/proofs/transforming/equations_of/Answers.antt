use Rattle.std.proofs.Common.{subst, ◌∙◌}
use Rattle.cq_theory.specs.Schema.{IsSchema}
use Rattle.cq_transform.proofs.transforming.equations_of.Goals as goal

pub returns-clause-schema : goal.returns-clause-schema
returns-clause-schema c = subst IsSchema (c.deref.ensures ∙ c.schema-schema.ensures.schema) c.is_well_sorted.ensures
