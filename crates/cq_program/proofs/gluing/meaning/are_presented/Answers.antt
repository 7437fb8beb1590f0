use Rattle.std.proofs.Common.{◌≡◌, map, get_or, subst}
use Rattle.std.proofs.lemmas.List.{take_all}
use Rattle.std.specs.Prelude.{All}
use Rattle.cq_theory.specs.Presentation.{IsPresentation}
use Rattle.cq_instance.specs.InstanceData.{IsInstance}
use Rattle.cq_push.proofs.Beside.{presented_in, presented_more}
use Rattle.cq_program.proofs.gluing.meaning.are_presented.Goals as goal

pub loop-part-preserved : goal.loop-part-preserved
loop-part-preserved c = λ S over.
    presented_more (λ part. part.value.presentation) c.args.parts.now c.loop-part.part-index c.part-item.result c.loop-part-test.true S (c.loop-part.invariant S over)
    (let here : c.deref.result.now ≡ (get_or c.args.parts.now c.loop-part.part-index c.part-item.result).value = cc in
    presented_in S (get_or c.args.parts.now c.loop-part.part-index c.part-item.result).value (subst IsInstance here c.is_instance.ensures)
    (over c.loop-part.part-index c.part-item.result c.loop-part-test.true))

pub returns : goal.returns
returns c = λ S over.
    subst (λ parts. All (IsPresentation S) (map (λ part. part.value.presentation) parts)) (take_all c.loop-part.part-index c.args.parts.now c.loop-part-test.false) (c.loop-part.invariant S over)
