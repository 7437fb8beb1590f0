use Rattle.std.proofs.Common.{◌≡◌, ◌++◌, map}
use Rattle.cq_theory.specs.Canonical.{below}
use Rattle.cq_adjoint.specs.QueryMoves.{null_sent}
use Rattle.cq_adjoint.proofs.coeval_maps.push_nulls.Given as goal

abbrev pub invariant-loop-label : goal.invariant-loop-label
invariant-loop-label l =
    l.made.items ≡ l.initial.made.items ++ map (null_sent l.copying.query.now l.copying.moved.now l.copying.source.now l.copying.target.now) (below l.label)
