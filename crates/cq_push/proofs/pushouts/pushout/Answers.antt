use Rattle.std.proofs.Common.{[], ◌∷◌, ◌++◌, ◌≡◌, IfOk, length, sym, subst, ◌∙◌}
use Rattle.cq_theory.specs.SchemaData.{SchemaData as Schema}
use Rattle.cq_theory.specs.declared.presentation.Presentation.{Presentation}
use Rattle.cq_theory.specs.Presentation.{IsPresentation}
use Rattle.cq_model.specs.Moving.{IsModelOrCause}
use Rattle.cq_transform.specs.Gluing.{sorts_of, equations_from, glued_images, pushout_of}
use Rattle.cq_push.proofs.Beside.{presented_in, two_presented}
use Rattle.cq_push.proofs.Limits.{glued_presentation}
use Rattle.cq_push.proofs.Presented.{sorts_in, pushout_sorted}
use Rattle.cq_push.proofs.Glued.{images_of}
use Rattle.cq_push.proofs.pushouts.pushout.Goals as goal

pub pushout_presentation-presented-requires : goal.pushout_presentation-presented-requires
pushout_presentation-presented-requires c = c.requires.first.count ∙ sym c.requires.second.count

pub build_presented-requires : goal.build_presented-requires
build_presented-requires c =
    let left : Presentation = c.args.left.now.presentation in
    let right : Presentation = c.args.right.now.presentation in
    let S : Schema = c.args.start.now.schema in
    let schema : c.in_ok-schema.schema.value ≡ S = c.in_ok-schema.ensures.cases ∙ c.schema.ensures.schema in
    let on_left : IsPresentation S left = presented_in S c.args.left.now c.is_instance.ensures c.requires.first.schema in
    let on_right : IsPresentation S right = presented_in S c.args.right.now c.is_instance-2.ensures c.requires.second.schema in
    record {
      presentation = subst (λ (T : Schema). IfOk c.pushout_presentation-presented.result (λ made. IsPresentation T made)) (sym schema)
          (glued_presentation S (sorts_of (left ∷ right ∷ []))
          (equations_from 0 (left ∷ right ∷ []) ++ glued_images (length left.generators) c.args.first.now.images c.args.second.now.images)
          c.pushout_presentation-presented.result c.pushout_presentation-presented.ensures (sorts_in S (left ∷ right ∷ []) (two_presented S left right on_left on_right))
          (pushout_sorted S left right c.args.first.now.images c.args.second.now.images on_left on_right
          (images_of c.args.first.now c.args.second.now c.args.start.now c.args.left.now c.args.right.now c.requires.first c.requires.second)));
      depth = c.requires.depth;
    }

pub returns : goal.returns
returns c =
    let P : Presentation = pushout_of c.args.first.now c.args.second.now c.args.left.now.presentation c.args.right.now.presentation in
    subst (λ (S : Schema). IsModelOrCause S P c.args.depth c.build_presented.result) (c.in_ok-schema.ensures.cases ∙ c.schema.ensures.schema)
    (c.build_presented.ensures P c.pushout_presentation-presented.ensures)
