use Rattle.std.proofs.Common.{ℕ, List, []}
use Rattle.std.specs.List.{flat_map}
use Rattle.cq_theory.specs.Canonical.{below}
use Rattle.cq_theory.specs.Tables.{count_of}
use Rattle.cq_instance.specs.declared.transform.Image.{Image}
use Rattle.cq_query.proofs.Copying.{pushed_below}
use Rattle.cq_adjoint.specs.QueryMoves.{copies_of_row}
use Rattle.cq_adjoint.proofs.coeval_maps.images.Goals as goal

pub loop-entity-preserved : goal.loop-entity-preserved
loop-entity-preserved c =
    let m = c.args.copying.now in
    let f : ℕ → List Image = λ entity. flat_map (copies_of_row m.query.now m.moved.now m.source.now m.target.now entity) (below (count_of m.source.now.tables entity)) in
    pushed_below f [] c.loop-entity.images.items _ c.loop-entity.entity c.loop-entity.invariant c.in_ok-push_rows.ensures
