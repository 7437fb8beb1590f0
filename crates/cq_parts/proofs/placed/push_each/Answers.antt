use Rattle.std.proofs.Common.{[], ◌∷◌, ◌++◌, ap, ◌∙◌}
use Rattle.cq_parts.proofs.Appended.{one_part}
use Rattle.cq_parts.proofs.placed.push_each.Goals as goal

pub loop-part-preserved : goal.loop-part-preserved
loop-part-preserved g c =
    one_part g.P.HasPlace.place_of c.args.places.now.items c.loop-part.places.items _ c.args.parts.now c.loop-part.part-index c.part-item.result c.loop-part-test.true
    c.loop-part.invariant (c.in_ok-push.ensures.items ∙ ap (λ p. c.loop-part.places.items ++ p ∷ []) (c.place.ensures ∙ ap g.P.HasPlace.place_of c.part-item.is))
