use Rattle.std.proofs.Common.{[], ◌∷◌, ◌++◌, ap, ◌∙◌}
use Rattle.cq_parts.proofs.Appended.{one_part}
use Rattle.cq_parts.proofs.copied.push_held.Goals as goal

pub loop-item-preserved : goal.loop-item-preserved
loop-item-preserved g c =
    let part_for = g.H.Holds.part_for c.args.holder.now in
    one_part part_for c.args.parts.now.items c.loop-item.parts.items _ c.args.items.now c.loop-item.item-index c.item-item.result c.loop-item-test.true c.loop-item.invariant
    (c.in_ok-push.ensures.items ∙ ap (λ p. c.loop-item.parts.items ++ p ∷ []) (c.in_ok-held_part.ensures ∙ ap part_for c.item-item.is))
