use Rattle.std.proofs.Common.{[], ◌∷◌, ◌++◌, sym, ◌∙◌}
use Rattle.std.proofs.lemmas.List.{take_all, take_more}
use Rattle.cq_instance.proofs.values.copied_values.Goals as goal

pub loop-value-preserved : goal.loop-value-preserved
loop-value-preserved c =
    c.in_ok-push.ensures.items ∙ (λ k. c.loop-value.invariant k ++ (c.in_ok-copied.ensures ∙ c.value-item.is) k ∷ [])
    ∙ sym (take_more c.args.values.now c.loop-value.value-index c.value-item.result c.loop-value-test.true)

pub returns : goal.returns
returns c = c.from_vec.ensures ∙ c.loop-value.invariant ∙ take_all c.loop-value.value-index c.args.values.now c.loop-value-test.false
