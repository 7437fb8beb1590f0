use Rattle.std.proofs.Common.{[], ◌+◌, subst, sym}
use Rattle.cq_text.specs.Grouped.{IsGrouped}
use Rattle.cq_text.proofs.Groups.{IsGrouped-push}
use Rattle.cq_text.proofs.edges.empty_groups.Goals as goal

pub loop-preserved : goal.loop-preserved
loop-preserved c =
    subst (IsGrouped [] (c.loop.counter + 1)) (sym c.in_ok-push.ensures.items) (IsGrouped-push c.loop.counter c.loop.groups.items c.new.result c.loop.invariant c.new.ensures.items)
