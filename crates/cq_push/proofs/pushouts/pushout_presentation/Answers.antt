use Rattle.std.proofs.Common.{[], ◌∷◌, ◌++◌, ◌≡◌, ◌≤◌, ◌<◌, Err, length, sym, ap, subst, ◌∙◌}
use Rattle.cq_theory.specs.declared.presentation.Presentation.{Presentation}
use Rattle.cq_model.specs.Moving.{Presents}
use Rattle.cq_model.proofs.Presenting.{presents_of}
use Rattle.cq_transform.specs.Gluing.{presented, sorts_of, equations_from, glued_images, pushout_of}
use Rattle.cq_push.proofs.Limits.{still_many, too_many}
use Rattle.cq_push.proofs.pushouts.pushout_presentation.Goals as goal

pub glue-requires : goal.glue-requires
glue-requires c = record {
  left = subst (λ (P : Presentation). length P.generators ≤ 16000000) (sym c.presentation.ensures.presentation) c.presentation.ensures.instance.presented.count;
  images = ap length c.as_slice.ensures ∙ c.requires ∙ sym (ap length c.as_slice-2.ensures);
}

pub returns-in-Err : goal.returns-in-Err
returns-in-Err c =
    let left : Presentation = c.args.left.now.presentation in
    let right : Presentation = c.args.right.now.presentation in
    presents_of (pushout_of c.args.first.now c.args.second.now left right) (Err c.in-Err.refusal) tt tt
    (still_many c.in-Err.refusal
    (λ many. too_many (sorts_of (left ∷ right ∷ []))
    (equations_from 0 (left ∷ right ∷ []) ++ glued_images (length left.generators) c.args.first.now.images c.args.second.now.images)
    (subst (λ (x : Presentation × Presentation). 16000000 < length (sorts_of (x.0 ∷ x.1 ∷ [])))
    (λ i. (c.presentation.ensures.presentation i, c.presentation-2.ensures.presentation i)) many))
    c.in-Err.ensures.refused)

pub returns-in-Ok : goal.returns-in-Ok
returns-in-Ok c =
    let left : Presentation = c.args.left.now.presentation in
    let right : Presentation = c.args.right.now.presentation in
    let on_left : c.presentation.result.now ≡ left = c.presentation.ensures.presentation in
    let on_right : c.presentation-2.result.now ≡ right = c.presentation-2.ensures.presentation in
    let sorts : c.in-Ok.gluing.sorts.items ≡ sorts_of (left ∷ right ∷ []) = c.in-Ok.ensures.sorts ∙ (λ i. sorts_of (on_left i ∷ on_right i ∷ [])) in
    let equations : c.in-Ok.gluing.equations.items ≡ equations_from 0 (left ∷ right ∷ []) ++ glued_images (length left.generators) c.args.first.now.images c.args.second.now.images =
    c.in-Ok.ensures.equations
    ∙ (λ i. equations_from 0 (on_left i ∷ on_right i ∷ []) ++ glued_images (length (on_left i).generators) (c.as_slice.ensures i) (c.as_slice-2.ensures i)) in
    let call = c.into_presentation.ensures in
    subst (λ (P : Presentation). Presents P c.into_presentation.result) (λ i. presented (sorts i) (equations i))
    (presents_of (presented c.in-Ok.gluing.sorts.items c.in-Ok.gluing.equations.items) c.into_presentation.result call.accepted call.made call.refused)
