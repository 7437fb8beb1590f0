use Rattle.std.proofs.Common.{length, ap, ◌∙◌}
use Rattle.cq_theory.specs.SchemaData.{SchemaData}
use Rattle.cq_theory.proofs.Beginning.{obs_eqs_within}
use Rattle.cq_theory.proofs.beginnings.observation_equations_by_entity.Goals as goal

pub group_obs_eqs-requires : goal.group_obs_eqs-requires
group_obs_eqs-requires c =
    obs_eqs_within c.args.schema.now c.is_well_sorted.ensures c.len.result (c.len.ensures ∙ ap (λ (S : SchemaData). length S.entities) c.schema.view_is)
    c.as_slice.result.now (c.as_slice.ensures ∙ ap (λ (S : SchemaData). S.obs_eqs) c.schema.view_is)
