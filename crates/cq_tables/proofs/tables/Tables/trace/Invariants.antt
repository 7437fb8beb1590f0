use Rattle.std.proofs.Common.{◌≡◌, true, drop}
use Rattle.cq_tables.specs.Content.{keys_of, live_of, entity_of, end_of, trace_of}
use Rattle.cq_tables.proofs.tables.Tables.trace.Given as goal

abbrev pub invariant-loop-key : goal.invariant-loop-key
invariant-loop-key l = record {
  live : live_of l.self l.at ≡ true;
  end : end_of (keys_of l.self) (entity_of l.self l.at) (drop l.key-index l.path) ≡ end_of (keys_of l.self) (entity_of l.self l.row) l.path;
  trace : trace_of l.self l.at (drop l.key-index l.path) ≡ trace_of l.self l.row l.path;
}
