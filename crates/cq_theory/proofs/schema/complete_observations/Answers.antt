use Rattle.cq_theory.proofs.MadeSchemas.{observations-whole}
use Rattle.cq_theory.proofs.schema.complete_observations.Goals as goal

pub invariant_of-schema : goal.invariant_of-schema
invariant_of-schema c = (
  observations-whole _ c.args.schema.now c.schema.view_is c.schema.invariant.0 c.args.first c.args.parts.now _ _
      c.in_ok-obs_eqs.ensures.accepted c.from_vec.ensures c.in_ok-obs_eqs.ensures.made,
  c.schema.invariant.1,
  c.schema.invariant.2,
  c.schema.invariant.3,
)
