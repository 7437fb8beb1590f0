use Rattle.std.proofs.Common.{◌≡◌, true, drop}
use Rattle.cq_tables.specs.Content.{keys_of, live_of, entity_of, end_of}
use Rattle.cq_rows.proofs.join.stop.Given as goal

abbrev pub invariant-loop-key : goal.invariant-loop-key
invariant-loop-key l = record {
  live : live_of l.tables l.at ≡ true;
  end : end_of (keys_of l.tables) (entity_of l.tables l.at) (drop l.key-index l.path) ≡ end_of (keys_of l.tables) (entity_of l.tables l.row) l.path;
}
