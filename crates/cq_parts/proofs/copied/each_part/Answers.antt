use Rattle.std.proofs.Common.{[], ◌∷◌, ◌++◌, ap, ◌∙◌}
use Rattle.cq_parts.proofs.Appended.{one_part}
use Rattle.cq_parts.proofs.copied.each_part.Goals as goal

pub loop-item-preserved : goal.loop-item-preserved
loop-item-preserved g c =
    one_part g.P.HasPart.part_of [] c.loop-item.parts.items _ c.args.items.now c.loop-item.item-index c.item-item.result c.loop-item-test.true c.loop-item.invariant
    (c.in_ok-push.ensures.items ∙ ap (λ p. c.loop-item.parts.items ++ p ∷ []) (c.in_ok-part.ensures ∙ ap g.P.HasPart.part_of c.item-item.is))
