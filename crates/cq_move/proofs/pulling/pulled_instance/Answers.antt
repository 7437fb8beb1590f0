use Rattle.std.proofs.Common.{refl, ap, subst, ◌∙◌}
use Rattle.cq_theory.specs.SchemaData.{SchemaData as Schema}
use Rattle.cq_theory.specs.Tables.{Tables, IsWellFormed, Satisfies}
use Rattle.cq_mapping.specs.MappingData.{MappingData as Mapping}
use Rattle.cq_move.proofs.MadeColumns.{given_model}
use Rattle.cq_move.proofs.pulling.pulled_instance.Goals as goal

pub with_sheet-requires : goal.with_sheet-requires
with_sheet-requires c =
    let F : Mapping = c.args.mapping.now in
    let M : Tables = c.args.instance.now.tables in
    let well : IsWellFormed F.target M = subst (λ (T : Schema). IsWellFormed T M) c.requires.over c.is_instance.ensures.well_formed in
    let satisfies : Satisfies F.target M = subst (λ (T : Schema). Satisfies T M) c.requires.over c.is_instance.ensures.satisfies in
    given_model F M c.is_well_sorted.ensures c.requires.preserves well satisfies c.is_instance.ensures.entries_fit c.requires.fits
    c.in_ok-source.source.value c.args.sheet M.algebra (c.in_ok-source.ensures.cases ∙ ap (λ (G : Mapping). G.source) c.mapping.view_is) c.requires.sheet refl
