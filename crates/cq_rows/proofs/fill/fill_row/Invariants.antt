use Rattle.cq_tables.specs.Content.{keys_of}
use Rattle.cq_tables.proofs.Starting.{next_key}
use Rattle.cq_rows.proofs.Filling.{IsFillingRow}
use Rattle.cq_rows.proofs.fill.fill_row.Given as goal

abbrev pub invariant-loop-place : goal.invariant-loop-place
invariant-loop-place l = IsFillingRow l.fn.tables l.tables l.row (next_key (keys_of l.tables) l.entity l.place)
