use Rattle.std.proofs.Common.{◌++◌, ap, ◌∙◌}
use Rattle.cq_parts.proofs.Appended.{more_parts}
use Rattle.cq_parts.proofs.placed.push_all.Goals as goal

pub loop-group-preserved : goal.loop-group-preserved
loop-group-preserved g c =
    let places_of = g.G.HasPlaces.places_of in
    more_parts places_of c.args.places.now.items c.loop-group.places.items c.push_places.new.places.items c.args.groups.now c.loop-group.group-index c.group-item.result
    c.loop-group-test.true c.loop-group.invariant (c.in_ok-push_places.ensures ∙ ap (λ e. c.loop-group.places.items ++ places_of e) c.group-item.is)
