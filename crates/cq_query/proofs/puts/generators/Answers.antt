use Rattle.std.proofs.Common.{◌+◌, ◌∷◌, [], ◌++◌, sym, ◌∙◌, arith}
use Rattle.std.proofs.lemmas.List.FromFn.{map-range_with_len_more}
use Rattle.cq_theory.specs.EntTerm.{alone}
use Rattle.cq_query.proofs.puts.generators.Goals as goal

pub loop-number-preserved : goal.loop-number-preserved
loop-number-preserved c =
    c.in_ok-push.ensures.items ∙ (λ i. c.loop-number.invariant i ++ c.alone.ensures i ∷ [])
    ∙ sym (map-range_with_len_more alone c.args.first c.loop-number.number (c.args.first + c.loop-number.number) (omega arith))
