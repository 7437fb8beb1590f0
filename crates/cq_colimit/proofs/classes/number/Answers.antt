use Rattle.std.proofs.Common.{get_or, refl}
use Rattle.cq_colimit.proofs.Numbering.{numbered_step}
use Rattle.cq_colimit.proofs.classes.number.Goals as goal

pub loop-parent-preserved : goal.loop-parent-preserved
loop-parent-preserved c =
    numbered_step c.args.parents.now c.loop-parent.firsts.items c.loop-parent.numbers.items c.loop-parent.next c.loop-parent.parent-index
    (get_or c.args.parents.now c.loop-parent.parent-index 0)
    c.add_entity.new.firsts.items c.add_entity.new.numbers.items c.in_ok-next.next c.loop-parent.invariant c.requires.down c.loop-parent-test.true refl
    c.in_ok-next.ensures.firsts c.in_ok-next.ensures.numbers c.in_ok-next.ensures.next
