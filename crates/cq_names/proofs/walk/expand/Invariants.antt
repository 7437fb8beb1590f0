use Rattle.cq_tables.specs.Content.{keys_of}
use Rattle.cq_tables.proofs.Starting.{next_key}
use Rattle.cq_names.specs.Walking.{IsExpanding}
use Rattle.cq_names.proofs.walk.expand.Given as goal

abbrev pub invariant-loop-key : goal.invariant-loop-key
invariant-loop-key l = IsExpanding l.schema l.tables l.initial.walk l.walk l.at l.row (next_key (keys_of l.tables) l.entity l.key-index)
