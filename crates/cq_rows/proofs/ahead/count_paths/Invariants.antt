use Rattle.std.proofs.Common.{◌≡◌, length}
use Rattle.cq_rows.specs.Unread.{AreCounts}
use Rattle.cq_rows.proofs.ahead.count_paths.Given as goal

abbrev pub invariant-loop-step : goal.invariant-loop-step
invariant-loop-step l = record {
  size : length l.counts.items ≡ l.entities;
  each : AreCounts l.keys l.free l._step l.counts.items;
}
