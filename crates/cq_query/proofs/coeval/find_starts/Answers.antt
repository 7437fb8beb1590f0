use Rattle.std.proofs.Common.{ℕ, ◌≡◌, ◌+◌, ◌<◌, ◌*◌, ◌++◌, ◌∷◌, [], inr, length, refl, sym, ◌∙◌, arith, rules}
use Rattle.std.proofs.lemmas.List.FromFn.{map-range_with_len_more}
use Rattle.cq_query.specs.Coeval.{start_of, size_of, null_start}
use Rattle.cq_query.proofs.Copying.{start_more, start_before}
use Rattle.cq_query.proofs.coeval.find_starts.Goals as goal

pub returns-in_default-clause-refused : goal.returns-in_default-clause-refused
returns-in_default-clause-refused c =
    let e : ℕ = c.loop-entity.entity in
    let within : e < length c.args.query.now.target.entities = search rules in
    let size : c.number_at-count.result * c.variable_count.result ≡ size_of c.args.query.now c.args.counts.now e = λ i. c.number_at-count.ensures i * c.variable_count.ensures.count i in
    let many : 16000000 < null_start c.args.query.now c.args.counts.now = omega (arith, c.in_default.ensures, c.loop-entity.invariant.1, size, start_before c.args.query.now c.args.counts.now e within) in
    inr (refl, many)

pub loop-entity-preserved : goal.loop-entity-preserved
loop-entity-preserved c =
    let e : ℕ = c.loop-entity.entity in
    let size : c.number_at-count.result * c.variable_count.result ≡ size_of c.args.query.now c.args.counts.now e = λ i. c.number_at-count.ensures i * c.variable_count.ensures.count i in (
      c.in_ok-push.ensures.items ∙ (λ i. c.loop-entity.invariant.0 i ++ c.loop-entity.invariant.1 i ∷ [])
          ∙ sym (map-range_with_len_more (start_of c.args.query.now c.args.counts.now) 0 e e (omega arith)),
      c.in-Some.ensures.0 ∙ (λ i. c.loop-entity.invariant.1 i + size i) ∙ sym (start_more c.args.query.now c.args.counts.now e),
      c.in-Some.ensures.1,
    )
