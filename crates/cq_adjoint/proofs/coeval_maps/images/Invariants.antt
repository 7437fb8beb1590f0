use Rattle.std.proofs.Common.{◌≡◌}
use Rattle.std.specs.List.{flat_map}
use Rattle.cq_theory.specs.Canonical.{below}
use Rattle.cq_theory.specs.Tables.{count_of}
use Rattle.cq_adjoint.specs.QueryMoves.{copies_of_row}
use Rattle.cq_adjoint.proofs.coeval_maps.images.Given as goal

abbrev pub invariant-loop-entity : goal.invariant-loop-entity
invariant-loop-entity l =
    l.images.items ≡ flat_map (λ entity. flat_map (copies_of_row l.copying.query.now l.copying.moved.now l.copying.source.now l.copying.target.now entity)
    (below (count_of l.copying.source.now.tables entity))) (below l.entity)
