use Rattle.std.proofs.Common.{length, ap, ◌∙◌}
use Rattle.cq_theory.specs.SchemaData.{SchemaData}
use Rattle.cq_theory.proofs.Beginning.{attributes_within}
use Rattle.cq_theory.proofs.beginnings.attributes_by_entity.Goals as goal

pub group_edges-requires : goal.group_edges-requires
group_edges-requires c =
    attributes_within c.args.schema.now c.is_well_sorted.ensures c.len.result (c.len.ensures ∙ ap (λ (S : SchemaData). length S.entities) c.schema.view_is)
    c.as_slice.result.now (c.as_slice.ensures ∙ ap (λ (S : SchemaData). S.attributes) c.schema.view_is)
