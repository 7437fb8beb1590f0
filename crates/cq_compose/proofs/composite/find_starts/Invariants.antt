use Rattle.std.proofs.Common.{◌≡◌, ◌≤◌, map}
use Rattle.cq_theory.specs.Canonical.{below}
use Rattle.cq_compose.specs.Counting.{start_in}
use Rattle.cq_compose.proofs.composite.find_starts.Given as goal

abbrev pub invariant-loop-var : goal.invariant-loop-var
invariant-loop-var l = record {
  total : l.total ≡ start_in l.first l.vars l.var-index;
  starts : l.starts.items ≡ map (start_in l.first l.vars) (below l.var-index);
  few : l.total ≤ 16000000;
}
