use Rattle.std.proofs.Common.{IfOk, sym, ap, subst, ◌∙◌}
use Rattle.cq_theory.specs.declared.presentation.Presentation.{Presentation}
use Rattle.cq_theory.specs.Presentation.{IsPresentation}
use Rattle.cq_theory.specs.SchemaData.{SchemaData as Schema}
use Rattle.cq_mapping.specs.Images.{sigma as moved}
use Rattle.cq_mapping.specs.MappingData.{MappingData as Mapping}
use Rattle.cq_model.specs.Moving.{IsModelOrCause}
use Rattle.cq_move.proofs.MovedPresentations.{moved_presents}
use Rattle.cq_move.proofs.pushing.sigma.Goals as goal

pub build_presented-requires : goal.build_presented-requires
build_presented-requires c =
    let target = c.in_ok-target.ensures.cases ∙ ap (λ (F : Mapping). F.target) c.mapping.view_is in
    record {
      presentation = subst (λ (S : Schema). IfOk c.sigma_presentation-presented.result (λ made. IsPresentation S made)) (sym target) c.sigma_presentation-presented.ensures.presentation;
      depth = c.requires.depth;
    }

pub returns : goal.returns
returns c =
    let F : Mapping = c.args.mapping.now in
    let P : Presentation = c.args.instance.now.presentation in
    let target = c.in_ok-target.ensures.cases ∙ ap (λ (G : Mapping). G.target) c.mapping.view_is in
    let call = c.sigma_presentation-presented.ensures in
    subst (λ (S : Schema). IsModelOrCause S (moved F P) c.args.depth c.build_presented.result) target
    (c.build_presented.ensures (moved F P)
    (moved_presents F P c.presentation.result.now c.sigma_presentation-presented.result c.presentation.ensures.presentation c.is_instance.ensures.presented.count call.accepted call.made call.refused))
