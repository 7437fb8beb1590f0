use Rattle.std.proofs.Common.{[], ◌+◌, subst, sym}
use Rattle.cq_import.specs.Columns.{IsGrouped, attribute_of}
use Rattle.cq_import.proofs.Grouping.{IsGrouped-push}
use Rattle.cq_import.proofs.columns.empty_lists.Goals as goal

pub loop-preserved : goal.loop-preserved
loop-preserved c =
    subst (IsGrouped (λ _. []) attribute_of [] (c.loop.counter + 1)) (sym c.in_ok-push.ensures.items)
    (IsGrouped-push (λ _. []) attribute_of c.loop.counter c.loop.lists.items c.new.result c.loop.invariant c.new.ensures.items)
