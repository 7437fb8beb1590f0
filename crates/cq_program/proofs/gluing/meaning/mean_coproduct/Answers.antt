use Rattle.std.proofs.Common.{List, ◌≡◌, map, ap, subst, ◌∙◌}
use Rattle.std.specs.Prelude.{All}
use Rattle.cq_theory.specs.declared.presentation.Presentation.{Presentation}
use Rattle.cq_theory.specs.Presentation.{IsPresentation}
use Rattle.cq_theory.specs.Schema.{IsSchema}
use Rattle.cq_theory.specs.SchemaData.{SchemaData}
use Rattle.cq_transform.specs.Gluing.{coproduct_of}
use Rattle.cq_program.specs.Judging.{IsAnswerOf}
use Rattle.cq_program.proofs.Answered.{are_term_models, answer_of, clash_named}
use Rattle.cq_program.proofs.GluedPresentations.{coproduct_is}
use Rattle.cq_program.proofs.gluing.meaning.mean_coproduct.Goals as goal

pub mean_model-requires-clause-named : goal.mean_model-requires-clause-named
mean_model-requires-clause-named c =
    let S : SchemaData = c.args.schema.value in
    let parts : List Presentation = map (λ part. part.value.presentation) c.args.parts.now in
    let schema : IsSchema S = subst IsSchema c.deref.ensures c.is_well_sorted.ensures in
    let all : All (IsPresentation S) parts = c.are_presented.ensures S c.requires.over in
    let of : IsAnswerOf S (coproduct_of parts) c.args.depth c.coproduct-answer.result =
    answer_of S (coproduct_of parts) c.args.depth c.coproduct-answer.result schema (coproduct_is S parts all) c.coproduct-answer.ensures in
    let typeside : c.deref-3.result.now ≡ S.typeside = c.deref-3.ensures ∙ ap (λ (T : SchemaData). T.typeside) (c.behind-over.view_is ∙ c.deref-2.ensures ∙ c.in_ok-over.ensures.cases) in
    λ least greater clash. clash_named S (coproduct_of parts) c.args.depth c.coproduct-answer.result of c.deref-3.result.now typeside schema (coproduct_is S parts all) least greater clash

pub returns-clause-stands : goal.returns-clause-stands
returns-clause-stands c =
    let S : SchemaData = c.args.schema.value in
    let parts : List Presentation = map (λ part. part.value.presentation) c.args.parts.now in
    let schema : IsSchema S = subst IsSchema c.deref.ensures c.is_well_sorted.ensures in
    let all : All (IsPresentation S) parts = c.are_presented.ensures S c.requires.over in
    let of : IsAnswerOf S (coproduct_of parts) c.args.depth c.coproduct-answer.result =
    answer_of S (coproduct_of parts) c.args.depth c.coproduct-answer.result schema (coproduct_is S parts all) c.coproduct-answer.ensures in
    c.mean_model.ensures.stands S (coproduct_of parts) c.args.depth of

pub mean_model-requires-clause-modelled : goal.mean_model-requires-clause-modelled
mean_model-requires-clause-modelled c = are_term_models c.coproduct-answer.result c.coproduct-answer.ensures.listed

pub returns-clause-refused : goal.returns-clause-refused
returns-clause-refused c =
    let S : SchemaData = c.args.schema.value in
    let parts : List Presentation = map (λ part. part.value.presentation) c.args.parts.now in
    let schema : IsSchema S = subst IsSchema c.deref.ensures c.is_well_sorted.ensures in
    let all : All (IsPresentation S) parts = c.are_presented.ensures S c.requires.over in
    let of : IsAnswerOf S (coproduct_of parts) c.args.depth c.coproduct-answer.result =
    answer_of S (coproduct_of parts) c.args.depth c.coproduct-answer.result schema (coproduct_is S parts all) c.coproduct-answer.ensures in
    let typeside : c.deref-3.result.now ≡ S.typeside = c.deref-3.ensures ∙ ap (λ (T : SchemaData). T.typeside) (c.behind-over.view_is ∙ c.deref-2.ensures ∙ c.in_ok-over.ensures.cases) in
    c.mean_model.ensures.refused S (coproduct_of parts) c.args.depth typeside of
