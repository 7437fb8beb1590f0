use Rattle.std.proofs.Common.{◌≡◌, ◌≤◌, ◌+◌, ◌++◌, ℕ, List, take}
use Rattle.cq_lex.specs.Place.{place_behind}
use Rattle.cq_lex.proofs.place.advance.Given as goal

abbrev pub invariant-loop-byte : goal.invariant-loop-byte
invariant-loop-byte l = record {
  same : (before : List ℕ) → l.fn.place ≡ place_behind before → l.here ≡ place_behind (before ++ take l.byte-index l.byte-items);
  line : l.here.line ≤ l.fn.place.line + l.byte-index;
  col : l.here.col ≤ l.fn.place.col + l.byte-index;
}
