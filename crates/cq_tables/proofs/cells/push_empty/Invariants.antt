use Rattle.std.proofs.Common.{◌≡◌, ◌≤◌, ◌+◌, ◌-◌, ◌++◌, replicate, None, vec_len, vec_capacity}
use Rattle.cq_tables.proofs.cells.push_empty.Given as goal

abbrev pub invariant-loop-i : goal.invariant-loop-i
invariant-loop-i l = record {
  room : vec_len l.cells + (l.count - l._i) ≤ vec_capacity l.cells;
  items : l.cells.items ≡ l.initial.cells.items ++ replicate l._i None;
}
