use Rattle.std.proofs.Common.{ℕ, ◌≡◌, length}
use Rattle.cq_rows.specs.Unread.{AreCounts}
use Rattle.cq_rows.proofs.Counting.{AreBelow}
use Rattle.cq_rows.proofs.ahead.longer.Given as goal

abbrev pub invariant-loop-number : goal.invariant-loop-number
invariant-loop-number l = record {
  size : length l.next.items ≡ length l.counts;
  each : (n : ℕ) → AreCounts l.keys l.free n l.counts → AreBelow l.keys l.free n l.number l.next.items;
}
