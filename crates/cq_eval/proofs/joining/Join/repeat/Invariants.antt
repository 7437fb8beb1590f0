use Rattle.std.proofs.Common.{◌≡◌, ◌≤◌, ◌++◌, drop, length, map, take}
use Rattle.cq_eval.proofs.joining.Join.repeat.Given as goal

abbrev pub invariant-loop-place : goal.invariant-loop-place
invariant-loop-place l = record {
  found : l.found.items ≡ l.initial.found.items ++ map (λ list. take l.bound l.choice ++ drop l.bound list) (drop l.fn.stretch.start (take l.place l.initial.found.items));
  few : length l.found.items ≤ 1000000;
}
