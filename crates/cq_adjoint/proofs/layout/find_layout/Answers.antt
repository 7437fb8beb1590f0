use Rattle.std.proofs.Common.{ℕ, ◌≡◌, ◌+◌, ◌<◌, ◌*◌, ◌++◌, ◌∷◌, [], length, sym, ◌∙◌, arith, rules}
use Rattle.std.proofs.lemmas.List.FromFn.{map-range_with_len_more}
use Rattle.cq_query.specs.Coeval.{start_of, size_of}
use Rattle.cq_query.proofs.Copying.{start_more, start_before}
use Rattle.cq_adjoint.proofs.layout.find_layout.Goals as goal

pub overflow_mul-total : goal.overflow_mul-total
overflow_mul-total c =
    let e : ℕ = c.loop-entity.entity in
    let within : e < length c.args.query.now.target.entities = search rules in
    let size : c.number_at-count.result * c.width-copies.result ≡ size_of c.args.query.now c.args.counts.now e = λ i. c.number_at-count.ensures i * c.width-copies.ensures i in
    omega (arith, size, start_before c.args.query.now c.args.counts.now e within, c.requires)

pub overflow_add-total : goal.overflow_add-total
overflow_add-total c =
    let e : ℕ = c.loop-entity.entity in
    let within : e < length c.args.query.now.target.entities = search rules in
    let size : c.number_at-count.result * c.width-copies.result ≡ size_of c.args.query.now c.args.counts.now e = λ i. c.number_at-count.ensures i * c.width-copies.ensures i in
    omega (arith, c.loop-entity.invariant.1, size, start_before c.args.query.now c.args.counts.now e within, c.requires)

pub loop-entity-preserved : goal.loop-entity-preserved
loop-entity-preserved c =
    let e : ℕ = c.loop-entity.entity in
    let size : c.number_at-count.result * c.width-copies.result ≡ size_of c.args.query.now c.args.counts.now e = λ i. c.number_at-count.ensures i * c.width-copies.ensures i in (
      c.in_ok-push.ensures.items ∙ (λ i. c.loop-entity.invariant.0 i ++ c.loop-entity.invariant.1 i ∷ [])
          ∙ sym (map-range_with_len_more (start_of c.args.query.now c.args.counts.now) 0 e e (omega arith)),
      (λ i. c.loop-entity.invariant.1 i + size i) ∙ sym (start_more c.args.query.now c.args.counts.now e),
    )
