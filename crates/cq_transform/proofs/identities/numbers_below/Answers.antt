use Rattle.std.proofs.Common.{ℕ, List, ◌∷◌, ◌++◌, [], sym, ap, ◌∙◌}
use Rattle.cq_transform.proofs.Ranges.{below_more}
use Rattle.cq_transform.proofs.identities.numbers_below.Goals as goal

pub loop-number-preserved : goal.loop-number-preserved
loop-number-preserved c =
    c.in_ok-push.ensures.items ∙ ap (λ (l : List ℕ). l ++ c.loop-number.number ∷ []) c.loop-number.invariant ∙ sym (below_more c.loop-number.number)
