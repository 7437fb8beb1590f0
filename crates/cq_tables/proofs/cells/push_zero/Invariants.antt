use Rattle.std.proofs.Common.{◌≡◌, ◌≤◌, ◌+◌, ◌-◌, ◌++◌, replicate, vec_len, vec_capacity}
use Rattle.cq_tables.proofs.cells.push_zero.Given as goal

abbrev pub invariant-loop-i : goal.invariant-loop-i
invariant-loop-i l = record {
  room : vec_len l.spots + (l.count - l._i) ≤ vec_capacity l.spots;
  items : l.spots.items ≡ l.initial.spots.items ++ replicate l._i 0;
}
