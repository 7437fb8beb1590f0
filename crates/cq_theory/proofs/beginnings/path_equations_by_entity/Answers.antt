use Rattle.std.proofs.Common.{length, ap, ◌∙◌}
use Rattle.cq_theory.specs.SchemaData.{SchemaData}
use Rattle.cq_theory.proofs.Beginning.{path_eqs_within}
use Rattle.cq_theory.proofs.beginnings.path_equations_by_entity.Goals as goal

pub group_path_eqs-requires : goal.group_path_eqs-requires
group_path_eqs-requires c =
    path_eqs_within c.args.schema.now c.is_well_sorted.ensures c.len.result (c.len.ensures ∙ ap (λ (S : SchemaData). length S.entities) c.schema.view_is)
    c.as_slice.result.now (c.as_slice.ensures ∙ ap (λ (S : SchemaData). S.path_eqs) c.schema.view_is)
