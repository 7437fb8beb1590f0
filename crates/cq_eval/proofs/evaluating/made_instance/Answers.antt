use Rattle.std.proofs.Common.{refl, ap, subst, ◌∙◌}
use Rattle.cq_theory.specs.SchemaData.{SchemaData as Schema}
use Rattle.cq_theory.specs.Tables.{Tables, IsWellFormed, Satisfies}
use Rattle.cq_query.specs.QueryData.{QueryData as Query}
use Rattle.cq_eval.specs.Made.{made_tables}
use Rattle.cq_eval.proofs.Answered.{given_model, short_cells}
use Rattle.cq_eval.proofs.evaluating.made_instance.Goals as goal

pub with_sheet-requires : goal.with_sheet-requires
with_sheet-requires c =
    let Q : Query = c.args.query.now in
    let M : Tables = c.args.instance.now.tables in
    let well : IsWellFormed Q.source M = subst (λ (S : Schema). IsWellFormed S M) c.requires.over c.is_instance.ensures.well_formed in
    let satisfies : Satisfies Q.source M = subst (λ (S : Schema). Satisfies S M) c.requires.over c.is_instance.ensures.satisfies in
    given_model Q M c.is_well_sorted.ensures c.requires.sound well satisfies c.is_instance.ensures.entries_fit (short_cells (made_tables Q M) c.requires.fits)
    c.in_ok-target.target.value c.args.sheet M.algebra (c.in_ok-target.ensures.cases ∙ ap (λ (q : Query). q.target) c.query.view_is) c.requires.sheet refl
