use Rattle.std.proofs.Common.{List, ◌≡◌, ◌<◌, ◌+◌, ◌++◌, map, length, get_or, ap, subst, ◌∙◌, arith}
use Rattle.std.proofs.lemmas.List.{take_all}
use Rattle.std.specs.Prelude.{All}
use Rattle.cq_theory.specs.declared.presentation.Presentation.{Presentation}
use Rattle.cq_theory.specs.declared.presentation.Sort.{Sort}
use Rattle.cq_theory.specs.Presentation.{IsPresentation}
use Rattle.cq_instance.specs.InstanceData.{IsInstance}
use Rattle.cq_transform.specs.Shifted.{shifted_equation}
use Rattle.cq_push.proofs.Beside.{own_sorts, sorts_more, equations_more, presented_more, presented_in, few_more, count_within}
use Rattle.cq_push.proofs.Limits.{still_many}
use Rattle.cq_push.proofs.coproducts.side_by_side.Goals as goal

pub loop-part-preserved : goal.loop-part-preserved
loop-part-preserved c =
    let same : c.presentation.result.now ≡ (get_or c.args.parts.now c.loop-part.part-index c.part-item.result).value.presentation = cc in
    record {
      few = few_more c.loop-part.gluing.sorts.items c.add.new.self.sorts.items c.presentation.result.now c.in_default.ensures.sorts c.in_default.ensures.few;
      sorts = sorts_more (λ part. part.value.presentation) c.args.parts.now c.loop-part.part-index c.part-item.result c.loop-part-test.true
          c.loop-part.gluing.sorts.items c.add.new.self.sorts.items c.loop-part.invariant.sorts
          (c.in_default.ensures.sorts ∙ ap (λ (P : Presentation). c.loop-part.gluing.sorts.items ++ own_sorts P) same);
      equations = equations_more (λ part. part.value.presentation) c.args.parts.now c.loop-part.part-index c.part-item.result c.loop-part-test.true
          c.loop-part.gluing.sorts.items c.loop-part.gluing.equations.items c.add.new.self.equations.items c.loop-part.invariant.sorts c.loop-part.invariant.equations
          (c.in_default.ensures.equations
          ∙ ap (λ (P : Presentation). c.loop-part.gluing.equations.items ++ map (shifted_equation (length c.loop-part.gluing.sorts.items)) P.equations) same);
      presented = λ S over.
          presented_more (λ part. part.value.presentation) c.args.parts.now c.loop-part.part-index c.part-item.result c.loop-part-test.true S (c.loop-part.invariant.presented S over)
          (let here : c.deref.result.now ≡ (get_or c.args.parts.now c.loop-part.part-index c.part-item.result).value = cc in
          presented_in S (get_or c.args.parts.now c.loop-part.part-index c.part-item.result).value (subst IsInstance here c.presentation.ensures.instance)
          (over c.loop-part.part-index c.part-item.result c.loop-part-test.true));
    }

pub returns-in-Err-clause-refused : goal.returns-in-Err-clause-refused
returns-in-Err-clause-refused c =
    let same : c.presentation.result.now ≡ (get_or c.args.parts.now c.loop-part.part-index c.part-item.result).value.presentation = cc in
    let own = ap (λ (P : Presentation). length P.generators) same in
    let so_far = ap (λ (l : List Sort). length l) c.loop-part.invariant.sorts in
    let all = count_within (λ part. part.value.presentation) c.args.parts.now c.loop-part.part-index c.part-item.result c.loop-part-test.true in
    still_many c.in-Err.refusal
    (λ (h : 16000000 < length c.loop-part.gluing.sorts.items + length c.presentation.result.now.generators). omega (arith, h, own, so_far, all))
    c.in-Err.ensures.refused

pub returns-clause-presented : goal.returns-clause-presented
returns-clause-presented c = λ S over.
    subst (λ parts. All (IsPresentation S) (map (λ part. part.value.presentation) parts)) (take_all c.loop-part.part-index c.args.parts.now c.loop-part-test.false) (c.loop-part.invariant.presented S over)
