use Rattle.std.proofs.Common.{[], ◌∷◌, ◌++◌, map, sym, ap, ◌∙◌}
use Rattle.std.proofs.lemmas.List.{map-append}
use Rattle.cq_theory.proofs.Grouped.{empties_more}
use Rattle.cq_theory.proofs.groups.empty_groups.Goals as goal

pub loop-number-preserved : goal.loop-number-preserved
loop-number-preserved g c =
    ap (map (λ group. group.items)) c.in_ok-push.ensures.items
    ∙ map-append (λ group. group.items) c.loop-number.groups.items (c.new.result ∷ [])
    ∙ (λ i. c.loop-number.invariant i ++ c.new.ensures.items i ∷ [])
    ∙ sym (empties_more c.loop-number._number)
