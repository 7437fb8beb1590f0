use Rattle.std.proofs.Common.{ℕ, [], ◌∷◌, ◌++◌, ◌<◌, ◌+◌, length, sym, ◌∙◌, arith, rules}
use Rattle.std.proofs.lemmas.List.FromFn.{map-range_with_len_more}
use Rattle.cq_instance.specs.Numbers.{start_of}
use Rattle.cq_instance.proofs.Pushed.{start_more}
use Rattle.cq_text.proofs.plan.find_starts.Goals as goal

pub loop-count-preserved : goal.loop-count-preserved
loop-count-preserved c =
    let e : ℕ = c.loop-count.count-index in
    let within : e < length c.args.counts.now = search rules in (
      c.in_ok-push.ensures.items ∙ (λ i. c.loop-count.invariant.0 i ++ c.loop-count.invariant.1 i ∷ []) ∙ sym (map-range_with_len_more (start_of c.args.counts.now) 0 e e (omega arith)),
      c.in_ok-next.ensures ∙ (λ i. c.loop-count.invariant.1 i + c.from.ensures i) ∙ sym (start_more c.args.counts.now e within),
    )
