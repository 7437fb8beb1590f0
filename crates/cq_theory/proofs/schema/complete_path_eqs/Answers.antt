use Rattle.cq_theory.proofs.MadeSchemas.{path_eqs-whole}
use Rattle.cq_theory.proofs.schema.complete_path_eqs.Goals as goal

pub invariant_of-schema : goal.invariant_of-schema
invariant_of-schema c = (
  path_eqs-whole _ c.args.schema.now c.schema.view_is c.schema.invariant.0 c.args.attributes.now c.args.first c.args.parts.now _ _
      c.in_ok-path_eqs.ensures.accepted c.from_vec.ensures c.in_ok-path_eqs.ensures.made,
  c.schema.invariant.1,
  c.schema.invariant.2,
  c.schema.invariant.3,
)
