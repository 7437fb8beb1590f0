use Rattle.std.proofs.Common.{◌≡◌, ◌++◌, ◌≤◌, ◌+◌, ◌-◌, ◌*◌, take, drop, length}
use Rattle.cq_query.specs.Answers.{IsTuple}
use Rattle.cq_eval.specs.Known.{AreKnown}
use Rattle.cq_eval.proofs.Extended.{so_far, so_over}
use Rattle.cq_eval.proofs.joining.Join.+join.Given as goal

abbrev pub decreases-extend : goal.decreases-extend
decreases-extend l = 4 * (length l.self.now.counts - l.bound) + 2

abbrev pub decreases-extend_by : goal.decreases-extend_by
decreases-extend_by l = 4 * (length l.self.now.counts - l.bound)

abbrev pub decreases-extend_among : goal.decreases-extend_among
decreases-extend_among l = 4 * (length l.self.now.counts - l.bound) + 1

abbrev pub decreases-extend_once : goal.decreases-extend_once
decreases-extend_once l = 4 * (length l.self.now.counts - l.bound) + 3

abbrev pub invariant-extend-loop-row : goal.invariant-extend-loop-row
invariant-extend-loop-row l = record {
  found : l.found.items ≡ l.initial.found.items ++ so_far l.self.instance.now.tables l.self.tests.now l.self.counts (drop (l.bound + 1) l.self.counts) (take l.bound l.initial.choice) l.row;
  few : length l.found.items ≤ 1000000;
  choice : IsTuple l.choice l.self.counts;
  kept : take l.bound l.choice ≡ take l.bound l.initial.choice;
  known : AreKnown l.self.instance.now.tables l.self.tests.now l.self.counts l.found.items l.known;
}

abbrev pub invariant-extend_among-loop-row : goal.invariant-extend_among-loop-row
invariant-extend_among-loop-row l = record {
  found : l.found.items ≡ l.initial.found.items ++ so_over l.self.instance.now.tables l.self.tests.now l.self.counts (drop (l.bound + 1) l.self.counts) (take l.bound l.initial.choice) (take l.row-index l.rows);
  few : length l.found.items ≤ 1000000;
  choice : IsTuple l.choice l.self.counts;
  kept : take l.bound l.choice ≡ take l.bound l.initial.choice;
  known : AreKnown l.self.instance.now.tables l.self.tests.now l.self.counts l.found.items l.known;
}
