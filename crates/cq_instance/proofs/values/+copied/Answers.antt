use Rattle.std.proofs.Common.{[], ◌∷◌, ◌++◌, sym, ap, ◌∙◌}
use Rattle.std.proofs.lemmas.List.{take_all, take_more}
use Rattle.cq_theory.specs.declared.value.Value.TheVariants.{Fun}
use Rattle.cq_instance.proofs.values.+copied.Goals as goal

pub loop-arg-preserved : goal.loop-arg-preserved
loop-arg-preserved t c =
    c.in_ok-push-in-Fun.ensures.items ∙ (λ k. c.loop-arg.invariant k ++ (c.in_ok-copied-in-Fun.ensures ∙ c.arg-item.is) k ∷ [])
    ∙ sym (take_more c.as_slice-arg-items.result.now c.loop-arg.arg-index c.arg-item.result c.loop-arg-test.true)

pub returns-after-loop-arg : goal.returns-after-loop-arg
returns-after-loop-arg t c =
    ap (Fun c.in-Fun.function)
    (c.from_vec.ensures ∙ c.loop-arg.invariant ∙ take_all c.loop-arg.arg-index c.as_slice-arg-items.result.now c.loop-arg-test.false ∙ c.as_slice-arg-items.ensures) ∙ sym c.in-Fun.is
