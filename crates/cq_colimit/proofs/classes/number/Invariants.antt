use Rattle.cq_colimit.proofs.Numbering.{AreNumbered}
use Rattle.cq_colimit.proofs.classes.number.Given as goal

abbrev pub invariant-loop-parent : goal.invariant-loop-parent
invariant-loop-parent l = AreNumbered l.parents l.firsts.items l.numbers.items l.next l.parent-index
