use Rattle.cq_tables.specs.Content.{keys_of}
use Rattle.cq_tables.proofs.Starting.{next_key}
use Rattle.cq_growth.specs.Levels.{ExpandsTo}
use Rattle.cq_growth.proofs.levels.expand.Given as goal

abbrev pub invariant-loop-key : goal.invariant-loop-key
invariant-loop-key l =
    ExpandsTo l.tables l.from (next_key (keys_of l.tables) l.entity l.key-index) l.initial.next.members.items l.initial.next.reached.items l.next.members.items l.next.reached.items
