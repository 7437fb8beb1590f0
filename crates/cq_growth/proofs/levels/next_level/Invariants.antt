use Rattle.cq_growth.specs.Levels.{IsNextOf}
use Rattle.cq_growth.proofs.levels.next_level.Given as goal

abbrev pub invariant-loop-member : goal.invariant-loop-member
invariant-loop-member l = IsNextOf l.tables l.member-index l.member-items l.initial.next.reached.items l.next.members.items l.next.reached.items
