use Rattle.std.proofs.Common.{ℕ, List, [], ◌∷◌, ◌++◌, ◌≡◌, ◌<◌, ◌+◌, map, length, sym, ◌∙◌, arith, rules}
use Rattle.std.proofs.lemmas.List.FromFn.{map-range_with_len_more}
use Rattle.cq_theory.specs.declared.term.EntTerm.{EntTerm}
use Rattle.cq_theory.specs.Canonical.{below}
use Rattle.cq_instance.specs.Numbers.{names}
use Rattle.cq_instance.proofs.Pushed.{start_more, start_fits}
use Rattle.cq_instance.proofs.canonical.generators.row_names.Goals as goal

pub names_from-requires : goal.names_from-requires
names_from-requires c =
    let within : c.loop-entity.entity < length c.args.counts.now = search rules in
    omega (arith, start_fits c.args.counts.now c.loop-entity.entity within, c.loop-entity.invariant.1, c.number_at-count.ensures, c.requires)

pub overflow_add-start : goal.overflow_add-start
overflow_add-start c =
    let within : c.loop-entity.entity < length c.args.counts.now = search rules in
    omega (arith, start_fits c.args.counts.now c.loop-entity.entity within, c.loop-entity.invariant.1, c.number_at-count.ensures, c.requires)

pub loop-entity-preserved : goal.loop-entity-preserved
loop-entity-preserved c =
    let e : ℕ = c.loop-entity.entity in
    let within : e < length c.args.counts.now = search rules in
    let made : ℕ → ℕ → List EntTerm = λ start count. map (λ (row : ℕ). let t : EntTerm = record { generator = start + row; path = [] } in t) (below count) in
    let last : c.in_ok-names_from.field-0 ≡ names c.args.counts.now e = c.in_ok-names_from.ensures ∙ (λ i. made (c.loop-entity.invariant.1 i) (c.number_at-count.ensures i)) in (
      c.in_ok-push.ensures.items ∙ (λ i. c.loop-entity.invariant.0 i ++ last i ∷ []) ∙ sym (map-range_with_len_more (names c.args.counts.now) 0 e e (omega arith)),
      (λ i. c.loop-entity.invariant.1 i + c.number_at-count.ensures i) ∙ sym (start_more c.args.counts.now e within),
    )
