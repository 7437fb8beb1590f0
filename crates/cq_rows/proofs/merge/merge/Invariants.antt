use Rattle.cq_tables.specs.Content.{keys_of}
use Rattle.std.proofs.Common.{◌+◌, ◌*◌, length}
use Rattle.cq_rows.specs.Rows.{live_count}
use Rattle.cq_rows.specs.Entries.{rows_of, pairs_now, IsCurrent}
use Rattle.cq_rows.proofs.Merging.{IsMerging}
use Rattle.cq_rows.proofs.merge.merge.Given as goal

abbrev pub invariant-loop-left : goal.invariant-loop-left
invariant-loop-left l = record {
  merging : IsMerging l.fn.tables l.tables (rows_of l.fn.rows) (rows_of l.rows) (pairs_now l.rows.renamings l.pending.items) l.a l.b;
  current : IsCurrent l.tables l.rows;
}

abbrev pub decreases-loop-left : goal.decreases-loop-left
decreases-loop-left l = live_count l.tables * (length (keys_of l.tables) + 1) + length l.pending.items
