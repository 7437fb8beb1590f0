use Rattle.std.proofs.Common.{[], ◌++◌, ap, ◌∙◌}
use Rattle.cq_parts.proofs.Appended.{more_parts}
use Rattle.cq_parts.proofs.copied.parts_of_all.Goals as goal

pub loop-group-preserved : goal.loop-group-preserved
loop-group-preserved g c =
    let parts_of = g.G.HasParts.parts_of in
    more_parts parts_of [] c.loop-group.parts.items c.push_parts.new.parts.items c.args.groups.now c.loop-group.group-index c.group-item.result c.loop-group-test.true
    c.loop-group.invariant (c.in_ok-push_parts.ensures ∙ ap (λ e. c.loop-group.parts.items ++ parts_of e) c.group-item.is)
