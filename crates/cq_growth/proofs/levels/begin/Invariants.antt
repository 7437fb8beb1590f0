use Rattle.cq_growth.specs.Levels.{HasBegun}
use Rattle.cq_growth.proofs.levels.begin.Given as goal

abbrev pub invariant-loop-number : goal.invariant-loop-number
invariant-loop-number l = HasBegun l.presentation l.tables l.entries l.number l.level.members.items l.level.reached.items
