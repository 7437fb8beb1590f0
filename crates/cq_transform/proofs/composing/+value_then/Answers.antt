use Rattle.std.proofs.Common.{ℕ, List, [], ◌∷◌, ◌++◌, ◌≡◌, map, take, get_or, IfOk, sym, ap, subst, ◌∙◌}
use Rattle.std.proofs.lemmas.List.{take_more, take_all, map-append}
use Rattle.cq_theory.specs.declared.value.Value.{Value}
use Rattle.cq_transform.specs.Sent.{value_sent}
use Rattle.cq_transform.proofs.Placed.{sent_function}
use Rattle.cq_transform.proofs.composing.+value_then.Goals as goal

pub loop-arg-preserved : goal.loop-arg-preserved
loop-arg-preserved t c =
    let items : List Value = c.as_slice-arg-items.result.now in
    let n : ℕ = c.loop-arg.arg-index in
    let arg : Value = c.arg-item.result in
    let f : Value → Value = value_sent c.args.last.now.tables.algebra.entries c.args.second.now.nulls in
    c.in_ok-push-in-Fun.ensures.items
    ∙ (λ j. c.loop-arg.invariant j ++ (c.in_ok-value_then-in-Fun.ensures ∙ ap f c.arg-item.is) j ∷ [])
    ∙ sym (ap (map f) (take_more items n arg c.loop-arg-test.true) ∙ map-append f (take n items) (get_or items n arg ∷ []))

pub returns-after-loop-arg : goal.returns-after-loop-arg
returns-after-loop-arg t c =
    subst (λ (v : Value). IfOk c.applied.result (λ w. w ≡ v))
    (sent_function c.args.last.now.tables.algebra.entries c.args.second.now.nulls c.args.value.now c.in-Fun.function c.in-Fun.args c.loop-arg.made.items c.in-Fun.is
    (c.loop-arg.invariant ∙ ap (map (value_sent c.args.last.now.tables.algebra.entries c.args.second.now.nulls))
    (take_all c.loop-arg.arg-index c.as_slice-arg-items.result.now c.loop-arg-test.false ∙ c.as_slice-arg-items.ensures)))
    c.applied.ensures
