use Rattle.std.proofs.Common.{List, Err, map, subst}
use Rattle.cq_theory.specs.declared.presentation.Presentation.{Presentation}
use Rattle.cq_model.specs.Moving.{Presents}
use Rattle.cq_model.proofs.Presenting.{presents_of}
use Rattle.cq_transform.specs.Gluing.{presented, sorts_of, equations_from, coproduct_of}
use Rattle.cq_push.proofs.Limits.{still_many, too_many, glued_presentation}
use Rattle.cq_push.proofs.Presented.{sorts_in, coproduct_sorted}
use Rattle.cq_push.proofs.coproducts.coproduct_presentation.Goals as goal

pub returns-in-Err-clause-presents : goal.returns-in-Err-clause-presents
returns-in-Err-clause-presents c =
    let parts : List Presentation = map (λ part. part.value.presentation) c.args.parts.now in
    presents_of (coproduct_of parts) (Err c.in-Err.refusal) tt tt (still_many c.in-Err.refusal (too_many (sorts_of parts) (equations_from 0 parts)) c.in-Err.ensures.refused)

pub returns-in-Ok : goal.returns-in-Ok
returns-in-Ok c =
    let parts : List Presentation = map (λ part. part.value.presentation) c.args.parts.now in
    let call = c.into_presentation.ensures in
    let presents : Presents (coproduct_of parts) c.into_presentation.result =
    subst (λ (P : Presentation). Presents P c.into_presentation.result) (λ i. presented (c.in-Ok.ensures.sorts i) (c.in-Ok.ensures.equations i))
    (presents_of (presented c.in-Ok.gluing.sorts.items c.in-Ok.gluing.equations.items) c.into_presentation.result call.accepted call.made call.refused) in
    record {
      presents = presents;
      presentation = λ S over.
          let all = c.in-Ok.ensures.presented S over in
          glued_presentation S (sorts_of parts) (equations_from 0 parts) c.into_presentation.result presents (sorts_in S parts all) (coproduct_sorted S parts all);
    }
