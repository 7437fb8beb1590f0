use Rattle.std.proofs.Common.{ℕ, [], ◌∷◌, ◌++◌, ◌<◌, ◌+◌, length, sym, ◌∙◌, arith, rules}
use Rattle.std.proofs.lemmas.List.FromFn.{map-range_with_len_more}
use Rattle.cq_instance.specs.Numbers.{start_of}
use Rattle.cq_instance.proofs.Pushed.{start_more, start_fits}
use Rattle.cq_instance.proofs.canonical.find_starts.Goals as goal

pub overflow_add-total : goal.overflow_add-total
overflow_add-total c =
    let within : c.loop-entity.entity < length c.args.counts.now = search rules in
    omega (arith, start_fits c.args.counts.now c.loop-entity.entity within, c.loop-entity.invariant.1, c.number_at-total.ensures, c.requires)

pub loop-entity-preserved : goal.loop-entity-preserved
loop-entity-preserved c =
    let e : ℕ = c.loop-entity.entity in
    let within : e < length c.args.counts.now = search rules in (
      c.in_ok-push.ensures.items ∙ (λ i. c.loop-entity.invariant.0 i ++ c.loop-entity.invariant.1 i ∷ []) ∙ sym (map-range_with_len_more (start_of c.args.counts.now) 0 e e (omega arith)),
      (λ i. c.loop-entity.invariant.1 i + c.number_at-total.ensures i) ∙ sym (start_more c.args.counts.now e within),
    )
