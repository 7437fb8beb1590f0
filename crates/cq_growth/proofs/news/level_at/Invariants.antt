use Rattle.cq_growth.specs.Levels.{IsLevel}
use Rattle.cq_growth.proofs.news.level_at.Given as goal

abbrev pub invariant-loop-depth : goal.invariant-loop-depth
invariant-loop-depth l = IsLevel l.schema l.presentation l.rows.tables l.rows.generator_rows l._depth l.level.members.items l.level.reached.items
