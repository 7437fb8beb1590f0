use Rattle.std.proofs.Common.{ℕ, [], ◌∷◌, ◌++◌, ◌+◌, sym, ◌∙◌, arith}
use Rattle.std.proofs.lemmas.List.FromFn.{map-range_with_len_more}
use Rattle.cq_theory.specs.declared.term.EntTerm.{EntTerm}
use Rattle.cq_instance.proofs.canonical.generators.names_from.Goals as goal

pub loop-row-preserved : goal.loop-row-preserved
loop-row-preserved c =
    let alone_at : ℕ → EntTerm = λ row. record { generator = c.args.start + row; path = [] } in
    c.in_ok-push.ensures.items ∙ (λ i. c.loop-row.invariant i ++ c.alone.ensures i ∷ []) ∙ sym (map-range_with_len_more alone_at 0 c.loop-row.row c.loop-row.row (omega arith))
