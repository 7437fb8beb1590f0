use Rattle.std.proofs.Common.{◌≡◌, ◌++◌}
use Rattle.std.specs.List.{flat_map}
use Rattle.cq_theory.specs.Canonical.{below}
use Rattle.cq_adjoint.specs.QueryMoves.{copies_of_row}
use Rattle.cq_adjoint.proofs.coeval_maps.push_rows.Given as goal

abbrev pub invariant-loop-row : goal.invariant-loop-row
invariant-loop-row l =
    l.made.items ≡ l.initial.made.items ++ flat_map (copies_of_row l.copying.query.now l.copying.moved.now l.copying.source.now l.copying.target.now l.entity) (below l.row)
