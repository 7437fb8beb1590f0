use Rattle.std.proofs.Common.{◌≡◌, ap, subst, ◌∙◌}
use Rattle.cq_theory.specs.declared.presentation.Presentation.{Presentation}
use Rattle.cq_theory.specs.Presentation.{IsPresentation}
use Rattle.cq_theory.specs.SchemaData.{SchemaData}
use Rattle.cq_theory.specs.TypesideData.{TypesideData}
use Rattle.cq_mapping.specs.Images.{sigma}
use Rattle.cq_mapping.specs.MappingData.{MappingData}
use Rattle.cq_program.specs.Judging.{IsAnswerOf}
use Rattle.cq_program.proofs.Answered.{are_term_models, sigma_answers, sigma_named}
use Rattle.cq_program.proofs.moves.meaning.mean_sigma.Goals as goal

pub mean_model-requires-clause-named : goal.mean_model-requires-clause-named
mean_model-requires-clause-named c =
    let F : MappingData = c.args.mapping.now in
    let P : Presentation = c.args.instance.now.presentation in
    let is : IsPresentation F.source P = subst (λ (S : SchemaData). IsPresentation S P) c.requires.over c.is_instance.ensures.presented in
    let of : IsAnswerOf F.target (sigma F P) c.args.depth c.sigma-answer.result =
    sigma_answers F P c.args.depth c.sigma-answer.result c.is_well_sorted.ensures is c.sigma-answer.ensures in
    let typeside : c.deref-2.result.now ≡ F.target.typeside =
    c.deref-2.ensures ∙ ap (λ (S : SchemaData). S.typeside) (c.behind-mapping.view_is ∙ c.deref.ensures) ∙ ap (λ (G : MappingData). G.target.typeside) c.mapping.view_is in
    λ least greater clash. sigma_named F P c.args.depth c.sigma-answer.result c.is_well_sorted.ensures is of c.deref-2.result.now typeside least greater clash

pub returns-clause-stands : goal.returns-clause-stands
returns-clause-stands c =
    let F : MappingData = c.args.mapping.now in
    let P : Presentation = c.args.instance.now.presentation in
    let is : IsPresentation F.source P = subst (λ (S : SchemaData). IsPresentation S P) c.requires.over c.is_instance.ensures.presented in
    let of : IsAnswerOf F.target (sigma F P) c.args.depth c.sigma-answer.result =
    sigma_answers F P c.args.depth c.sigma-answer.result c.is_well_sorted.ensures is c.sigma-answer.ensures in
    c.mean_model.ensures.stands F.target (sigma F P) c.args.depth of

pub mean_model-requires-clause-modelled : goal.mean_model-requires-clause-modelled
mean_model-requires-clause-modelled c = are_term_models c.sigma-answer.result c.sigma-answer.ensures.listed

pub returns-clause-refused : goal.returns-clause-refused
returns-clause-refused c =
    let F : MappingData = c.args.mapping.now in
    let P : Presentation = c.args.instance.now.presentation in
    let is : IsPresentation F.source P = subst (λ (S : SchemaData). IsPresentation S P) c.requires.over c.is_instance.ensures.presented in
    let of : IsAnswerOf F.target (sigma F P) c.args.depth c.sigma-answer.result =
    sigma_answers F P c.args.depth c.sigma-answer.result c.is_well_sorted.ensures is c.sigma-answer.ensures in
    let typeside : c.deref-2.result.now ≡ F.target.typeside =
    c.deref-2.ensures ∙ ap (λ (S : SchemaData). S.typeside) (c.behind-mapping.view_is ∙ c.deref.ensures) ∙ ap (λ (G : MappingData). G.target.typeside) c.mapping.view_is in
    c.mean_model.ensures.refused F.target (sigma F P) c.args.depth typeside of
