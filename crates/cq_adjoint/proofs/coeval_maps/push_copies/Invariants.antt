use Rattle.std.proofs.Common.{◌≡◌, ◌++◌, map}
use Rattle.cq_theory.specs.Canonical.{below}
use Rattle.cq_adjoint.specs.QueryMoves.{copy_sent}
use Rattle.cq_adjoint.proofs.coeval_maps.push_copies.Given as goal

abbrev pub invariant-loop-variable : goal.invariant-loop-variable
invariant-loop-variable l =
    l.made.items ≡ l.initial.made.items ++ map (copy_sent l.copying.query.now l.copying.moved.now l.copying.source.now l.copying.target.now l.entity l.row) (below l.variable)
